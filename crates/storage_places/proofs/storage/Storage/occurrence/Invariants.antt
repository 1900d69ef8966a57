use Rattle.std.proofs.Common.{◌≡◌, ◌+◌, ◌≤◌, length}
use Rattle.std.specs.List.{AllByRecursion}
use Rattle.storage_places.specs.Fits.{BoundFits, farthest}
use Rattle.storage_places.specs.Held.{held, first, lengths}
use Rattle.storage_places.specs.Reached.{occurrence_at}
use Rattle.storage_places.proofs.storage.Storage.occurrence.Given as goal

abbrev pub invariant-loop-outer : goal.invariant-loop-outer
invariant-loop-outer l =
    (occurrence_at (first l.self) (held l.self) l.fn.steps l.fn.subs l.fn.start ≡ occurrence_at (first l.self) (held l.self) l.outer l.bounds l.offset)
    × (l.offset + farthest l.outer ≤ l.fn.start + farthest l.fn.steps)
    × AllByRecursion (BoundFits (first l.self) (lengths (held l.self))) l.bounds

abbrev pub decreases-loop-outer : goal.decreases-loop-outer
decreases-loop-outer l = length l.outer
