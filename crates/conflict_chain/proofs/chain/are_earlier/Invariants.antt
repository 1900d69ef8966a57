use Rattle.std.proofs.Common.{ℕ, ◌<◌, get_or}
use Rattle.conflict_chain.proofs.chain.are_earlier.Given as goal

abbrev pub invariant-loop-i : goal.invariant-loop-i
invariant-loop-i l = (k d : ℕ) → k < l.i → get_or l.from k d < l.count
