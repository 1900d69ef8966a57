use Rattle.std.proofs.Common.{length}
use Rattle.std.specs.List.{AllByRecursion}
use Rattle.layout_reading.specs.Reading.{first_area}
use Rattle.storage_places.specs.Fits.{ItemFits, LayoutFits, area_lengths}
use Rattle.storage_places.proofs.fitting.layout_fits.Given as goal

abbrev pub invariant-loop-rest : goal.invariant-loop-rest
invariant-loop-rest l =
    (AllByRecursion (ItemFits (first_area l.layout.areas) (area_lengths l.layout)) l.rest → LayoutFits l.layout)
    × (LayoutFits l.layout → AllByRecursion (ItemFits (first_area l.layout.areas) (area_lengths l.layout)) l.rest)

abbrev pub decreases-loop-rest : goal.decreases-loop-rest
decreases-loop-rest l = length l.rest
