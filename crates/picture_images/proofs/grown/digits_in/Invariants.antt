use Rattle.std.proofs.Common.{◌≡◌, take, false}
use Rattle.std.specs.List.{list_any}
use Rattle.year_index.specs.Years.{years_in}
use Rattle.picture_images.specs.Images.{is_expanded_number}
use Rattle.picture_images.proofs.grown.digits_in.Given as goal

abbrev pub invariant-loop-mode : goal.invariant-loop-mode
invariant-loop-mode l = list_any is_expanded_number (take l.mode-index (years_in l.index l.fn.span)) ≡ false
