use Rattle.std.proofs.Common.{◌≤◌, length}
use Rattle.convert_command.proofs.write.write_pages.Given as goal

abbrev pub invariant-loop-rest : goal.invariant-loop-rest
invariant-loop-rest g l = g.S.Shelf.faults l.fn.shelf ≤ g.S.Shelf.faults l.shelf

abbrev pub decreases-loop-rest : goal.decreases-loop-rest
decreases-loop-rest g l = length l.rest
