-- What it is that rules make stretches of storage alike: where all that follows is known, each label of a byte of the one is
-- known of the same byte of the other.
use Rattle.std.specs.Prelude.{ℕ, ◌+◌, ◌*◌, ◌<◌, List, Contains}
use Rattle.y2k_base.specs.declared.place.Span.{Span}
use Rattle.data_layout.specs.declared.item.Step.{Step}
use Rattle.year_labels.specs.declared.label.Fact.{Fact}
use Rattle.year_labels.specs.declared.label.Label.{Label}
use Rattle.year_labels.specs.declared.rule.RuleInst.{RuleInst}
use Rattle.year_labels.specs.Facts.{fact_in}
use Rattle.year_labels.specs.Forms.{Follows}

-- all that follows by the rules from the facts is one of them
abbrev pub IsClosedUnder : List RuleInst → List Fact → Type 0
IsClosedUnder rules facts = (rule : RuleInst) (f : Fact) → Contains rules rule → Follows rule.form facts f → Contains facts f

abbrev pub HasSame : List Fact → Span → Span → Type 0
HasSame facts a b = (k : ℕ) (label : Label) → k < a.length → Contains facts (fact_in a k label) → Contains facts (fact_in b k label)

abbrev pub AreAlike : List RuleInst → Span → Span → Type 0
AreAlike rules a b = (facts : List Fact) → IsClosedUnder rules facts → HasSame facts a b

-- occurrence i, from 0, of what stands first at a span
abbrev pub occurrence : Span → Step → ℕ → Span
occurrence span step i = record { area = span.area; offset = span.offset + i * step.size; length = step.size }

-- any two occurrences are alike
abbrev pub AreOccurrencesAlike : List RuleInst → Span → Step → Type 0
AreOccurrencesAlike rules span step = (i j : ℕ) → i < step.count → j < step.count → AreAlike rules (occurrence span step i) (occurrence span step j)
