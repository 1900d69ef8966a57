use Rattle.std.proofs.Common.{◌≡◌, ◌++◌, length}
use Rattle.date_types.specs.Pictures as spec
use Rattle.date_types.proofs.pictures.add_ties.Given as goal

abbrev pub invariant-loop-one : goal.invariant-loop-one
invariant-loop-one l = l.rules ++ spec.ties (spec.held l.longest) l.rest ≡ l.fn.rules ++ spec.ties (spec.held l.fn.longest) l.pictured

abbrev pub decreases-loop-one : goal.decreases-loop-one
decreases-loop-one l = length l.rest
