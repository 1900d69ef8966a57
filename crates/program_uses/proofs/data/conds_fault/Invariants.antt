use Rattle.std.proofs.Common.{◌≡◌, drop, None}
use Rattle.program_uses.specs.Data as spec
use Rattle.program_uses.proofs.data.conds_fault.Given as goal

abbrev pub invariant-loop-cond : goal.invariant-loop-cond
invariant-loop-cond l = spec.conds_fault l.layout l.fault (drop l.cond-index l.conds) ≡ spec.conds_fault l.layout None l.conds
