use Rattle.std.proofs.Common.{◌≡◌, ℕ, ◌<◌, get_or}
use Rattle.conflict_chain.specs.declared.chain.ChainStep.{ChainStep}
use Rattle.conflict_chain.proofs.chain.are_unlike.Given as goal

abbrev pub invariant-loop-i : goal.invariant-loop-i
invariant-loop-i l = (j k : ℕ) (d : ChainStep) → j < k → k < l.i → (get_or l.steps j d).fact ≡ (get_or l.steps k d).fact → ⊥
