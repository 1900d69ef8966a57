use Rattle.std.proofs.Common.{◌≡◌, take}
use Rattle.std.specs.Prelude.{sum_by}
use Rattle.year_index.specs.Years.{years_in}
use Rattle.picture_images.specs.Images.{places_from}
use Rattle.picture_images.proofs.grown.places_in.Given as goal

abbrev pub invariant-loop-mode : goal.invariant-loop-mode
invariant-loop-mode l = l.more ≡ sum_by (places_from l.class l.span.offset) (take l.mode-index (years_in l.index l.span))
