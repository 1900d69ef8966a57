use Rattle.std.proofs.Common.{◌≡◌, ◌++◌, length}
use Rattle.std.specs.Prelude.{flat_map}
use Rattle.window_rewrite.specs.Forms.{filled_word}
use Rattle.window_rewrite.proofs.form.add_filled_words.Given as goal

abbrev pub invariant-loop-rest : goal.invariant-loop-rest
invariant-loop-rest l = l.into ++ flat_map (filled_word l.fn.slots) l.rest ≡ l.fn.into ++ flat_map (filled_word l.fn.slots) l.fn.form

abbrev pub decreases-loop-rest : goal.decreases-loop-rest
decreases-loop-rest l = length l.rest
