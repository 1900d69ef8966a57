use Rattle.std.proofs.Common.{◌≡◌, ◌++◌, map}
use Rattle.statement_places.specs.Left.{work}
use Rattle.statement_places.specs.Parts.{seen, left}
use Rattle.statement_places.proofs.parts.add_left.Given as goal

abbrev pub invariant-loop-list : goal.invariant-loop-list
invariant-loop-list l = map seen l.parts.items ++ left l.left ≡ map seen l.fn.parts.items ++ left l.fn.left

abbrev pub decreases-loop-list : goal.decreases-loop-list
decreases-loop-list l = work l.left
