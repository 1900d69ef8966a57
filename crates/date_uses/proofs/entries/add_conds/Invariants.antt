use Rattle.std.proofs.Common.{◌≡◌, ◌++◌, length}
use Rattle.date_uses.specs.Entries as spec
use Rattle.date_uses.proofs.entries.add_conds.Given as goal

abbrev pub invariant-loop-rest : goal.invariant-loop-rest
invariant-loop-rest l = l.uses ++ spec.conds_uses l.program l.words l.layout l.rest ≡ l.fn.uses ++ spec.conds_uses l.program l.words l.layout l.conds

abbrev pub decreases-loop-rest : goal.decreases-loop-rest
decreases-loop-rest l = length l.rest
