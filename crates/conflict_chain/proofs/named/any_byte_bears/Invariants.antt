use Rattle.std.proofs.Common.{ℕ, ◌<◌, Contains}
use Rattle.year_labels.specs.Facts.{fact_in}
use Rattle.year_labels.specs.Roles.{HoldsPower}
use Rattle.conflict_chain.specs.Named.{named}
use Rattle.conflict_chain.proofs.named.any_byte_bears.Given as goal

abbrev pub invariant-loop-i : goal.invariant-loop-i
invariant-loop-i l = (k : ℕ) → k < l.i → HoldsPower l.powers k l.power → Contains (named l.steps l.from) (fact_in l.span k l.label) → ⊥
