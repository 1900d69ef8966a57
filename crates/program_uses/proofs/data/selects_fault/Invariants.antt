use Rattle.std.proofs.Common.{◌≡◌, drop, None}
use Rattle.program_uses.specs.Names.{known}
use Rattle.program_uses.specs.Data as spec
use Rattle.program_uses.proofs.data.selects_fault.Given as goal

abbrev pub invariant-loop-select : goal.invariant-loop-select
invariant-loop-select l = spec.selects_fault l.layout (known l.files) l.fault (drop l.select-index l.selects) ≡ spec.selects_fault l.layout (known l.files) None l.selects
