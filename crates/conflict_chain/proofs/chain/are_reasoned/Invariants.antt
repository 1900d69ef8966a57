use Rattle.std.proofs.Common.{ℕ, ◌<◌, get_or, take}
use Rattle.conflict_chain.specs.declared.chain.ChainStep.{ChainStep}
use Rattle.conflict_chain.specs.Chains.{HasReason}
use Rattle.conflict_chain.proofs.chain.are_reasoned.Given as goal

abbrev pub invariant-loop-i : goal.invariant-loop-i
invariant-loop-i l = (k : ℕ) (d : ChainStep) → k < l.i → HasReason l.seeds l.rules (take k l.steps) (get_or l.steps k d).why (get_or l.steps k d).from (get_or l.steps k d).fact
