use Rattle.std.proofs.Common.{ℕ, ◌<◌, Contains}
use Rattle.year_labels.specs.Facts.{fact_in}
use Rattle.label_spread.specs.Steps.{label_on}
use Rattle.conflict_chain.specs.Named.{named}
use Rattle.conflict_chain.proofs.named.any_bears.Given as goal

abbrev pub invariant-loop-k : goal.invariant-loop-k
invariant-loop-k l = (j : ℕ) → j < l.k → Contains (named l.steps l.from) (fact_in l.span j (label_on l.label j)) → ⊥
