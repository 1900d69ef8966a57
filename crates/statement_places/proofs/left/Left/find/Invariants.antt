use Rattle.std.proofs.Common.{◌≡◌}
use Rattle.statement_places.specs.Left.{left, work}
use Rattle.statement_places.specs.Statements as spec
use Rattle.statement_places.proofs.left.Left.find.Given as goal

abbrev pub invariant-loop-list : goal.invariant-loop-list
invariant-loop-list l = spec.place_in l.number (left l.self) ≡ spec.place_in l.fn.number (left l.fn.self)

abbrev pub decreases-loop-list : goal.decreases-loop-list
decreases-loop-list l = work l.self
