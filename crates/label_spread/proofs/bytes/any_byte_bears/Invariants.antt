use Rattle.std.proofs.Common.{ℕ, ◌<◌, Contains}
use Rattle.year_labels.specs.Facts.{fact_in}
use Rattle.year_labels.specs.Roles.{HoldsPower}
use Rattle.label_spread.proofs.bytes.any_byte_bears.Given as goal

abbrev pub invariant-loop-i : goal.invariant-loop-i
invariant-loop-i l = (k : ℕ) → k < l.i → HoldsPower l.powers k l.power → Contains l.known (fact_in l.span k l.label) → ⊥
