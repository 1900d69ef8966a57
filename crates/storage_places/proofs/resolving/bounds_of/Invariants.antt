use Rattle.std.proofs.Common.{◌≡◌, List, ◌++◌, length}
use Rattle.std.specs.List.{AllByRecursion}
use Rattle.std.specs.Option.{option_map}
use Rattle.storage_places.specs.declared.access.Bound.{Bound}
use Rattle.storage_places.specs.Means.{SubIsWord}
use Rattle.storage_places.specs.Resolved as spec
use Rattle.storage_places.proofs.resolving.bounds_of.Given as goal

abbrev pub invariant-loop-rest : goal.invariant-loop-rest
invariant-loop-rest l =
    (spec.bounds_of l.layout l.fn.subs ≡ option_map (λ (bs : List Bound). l.bounds ++ bs) (spec.bounds_of l.layout l.rest))
    × (AllByRecursion SubIsWord l.rest → AllByRecursion SubIsWord l.fn.subs)

abbrev pub decreases-loop-rest : goal.decreases-loop-rest
decreases-loop-rest l = length l.rest
