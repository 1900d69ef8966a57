use Rattle.std.proofs.Common.{ℕ, ◌<◌}
use Rattle.label_spread.specs.Steps.{IsFilledAt}
use Rattle.conflict_chain.specs.Named.{named}
use Rattle.conflict_chain.proofs.follows.is_filled.Given as goal

abbrev pub invariant-loop-power : goal.invariant-loop-power
invariant-loop-power l = (p : ℕ) → p < l.power → IsFilledAt l.view l.least p (named l.steps l.from) l.fact → ⊥
