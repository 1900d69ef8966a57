use Rattle.std.proofs.Common.{ℕ, ◌<◌, get_or}
use Rattle.conflict_chain.specs.Named.{IsFactOf}
use Rattle.conflict_chain.proofs.named.has.Given as goal

abbrev pub invariant-loop-i : goal.invariant-loop-i
invariant-loop-i l = (k d : ℕ) → k < l.i → IsFactOf l.steps (get_or l.from k d) l.fact → ⊥
