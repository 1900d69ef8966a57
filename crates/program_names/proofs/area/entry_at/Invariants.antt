use Rattle.std.proofs.Common.{◌≡◌, length}
use Rattle.std.specs.List.{find}
use Rattle.program_names.specs.Areas.{fills, entry_at}
use Rattle.program_names.proofs.area.entry_at.Given as goal

abbrev pub invariant-loop-rest : goal.invariant-loop-rest
invariant-loop-rest l = entry_at (find (fills l.area) l.rest) ≡ entry_at (find (fills l.area) l.items)

abbrev pub decreases-loop-rest : goal.decreases-loop-rest
decreases-loop-rest l = length l.rest
