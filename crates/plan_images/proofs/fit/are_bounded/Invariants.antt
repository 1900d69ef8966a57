use Rattle.std.specs.Prelude.{◌<◌, ℕ, slice_index}
use Rattle.plan_images.specs.Tables.{IsLength}
use Rattle.plan_images.proofs.fit.are_bounded.Given as goal

abbrev pub invariant-loop-i : goal.invariant-loop-i
invariant-loop-i l = (k : ℕ) → k < l.i → IsLength (slice_index l.lengths k)
