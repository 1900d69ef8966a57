use Rattle.std.proofs.Common.{◌≡◌, ◌++◌, length}
use Rattle.window_rewrite.proofs.form.add_words.Given as goal

abbrev pub invariant-loop-rest : goal.invariant-loop-rest
invariant-loop-rest l = l.into ++ l.rest ≡ l.fn.into ++ l.fn.words

abbrev pub decreases-loop-rest : goal.decreases-loop-rest
decreases-loop-rest l = length l.rest
