-- The instance of a table makes any two of its occurrences alike.
use Rattle.std.proofs.Common.{◌≡◌, ◌⊎◌, inl, inr, ℕ, zero, suc, ◌+◌, ◌-◌, ◌*◌, ◌<◌, ◌≤◌, List, Contains, sym, ap, ◌∙◌, subst, refl, arith}
use Rattle.std.proofs.Math.Nat.{add-mul, mul-le-mul_right}
use Rattle.std.proofs.lemmas.Bool.{cases_lt}
use Rattle.y2k_base.specs.declared.place.Span.{Span}
use Rattle.y2k_base.specs.declared.word.Origin.{Origin}
use Rattle.data_layout.specs.declared.item.Step.{Step}
use Rattle.year_labels.specs.declared.label.Fact.{Fact}
use Rattle.year_labels.specs.declared.label.Label.{Label}
use Rattle.year_labels.specs.declared.rule.RuleInst.{RuleInst}
use Rattle.year_labels.specs.Facts.{fact_of, fact_in}
use Rattle.date_types.specs.Tables.{table_inst}
use Rattle.date_types.specs.Alike.{IsClosedUnder, HasSame, occurrence, AreOccurrencesAlike}

module _ (given : List RuleInst) (at : Origin) (span : Span) (step : Step) (there : Contains given (table_inst at span step)) (facts : List Fact) (closed : IsClosedUnder given facts) where
  Known : ℕ → Label → Type 0
  Known offset label = Contains facts (fact_of (record { area = span.area; offset = offset }) label)

  moved : (x y : ℕ) (label : Label) → x ≡ y → Known x label → Known y label
  unfolding Known
  moved x y label e known = subst (λ (o : ℕ). Contains facts (fact_of (record { area = span.area; offset = o }) label)) e known

  up : (i k : ℕ) (label : Label) → i + 1 < step.count → k < step.size → Known (span.offset + i * step.size + k) label → Known (span.offset + (i + 1) * step.size + k) label
  unfolding Known
  up i k label h lt known =
      let more : (i + 1) * step.size ≡ i * step.size + 1 * step.size = add-mul i 1 step.size in
      let most : (i + 1) * step.size ≤ (step.count - 1) * step.size = mul-le-mul_right step.size (omega arith) in
      let bound : i * step.size + k < (step.count - 1) * step.size = omega (arith, more, most, lt) in
      let from : span.offset + i * step.size + k ≡ span.offset + 0 * step.size + (i * step.size + k) = omega arith in
      let to : span.offset + (i + 1) * step.size + k ≡ span.offset + 1 * step.size + (i * step.size + k) = omega (arith, more) in
      closed (table_inst at span step) (fact_of (record { area = span.area; offset = span.offset + (i + 1) * step.size + k }) label) there
      (inl (i * step.size + k, label, bound, moved _ _ label from known, ap (λ (o : ℕ). fact_of (record { area = span.area; offset = o }) label) to))

  down : (i k : ℕ) (label : Label) → i + 1 < step.count → k < step.size → Known (span.offset + (i + 1) * step.size + k) label → Known (span.offset + i * step.size + k) label
  unfolding Known
  down i k label h lt known =
      let more : (i + 1) * step.size ≡ i * step.size + 1 * step.size = add-mul i 1 step.size in
      let most : (i + 1) * step.size ≤ (step.count - 1) * step.size = mul-le-mul_right step.size (omega arith) in
      let bound : i * step.size + k < (step.count - 1) * step.size = omega (arith, more, most, lt) in
      let from : span.offset + (i + 1) * step.size + k ≡ span.offset + 1 * step.size + (i * step.size + k) = omega (arith, more) in
      let to : span.offset + i * step.size + k ≡ span.offset + 0 * step.size + (i * step.size + k) = omega arith in
      closed (table_inst at span step) (fact_of (record { area = span.area; offset = span.offset + i * step.size + k }) label) there
      (inr (i * step.size + k, label, bound, moved _ _ label from known, ap (λ (o : ℕ). fact_of (record { area = span.area; offset = o }) label) to))

  climb : (n i k : ℕ) (label : Label) → i + n < step.count → k < step.size → Known (span.offset + i * step.size + k) label → Known (span.offset + (i + n) * step.size + k) label
  climb zero i k label h lt known = moved _ _ label (ap (λ (m : ℕ). span.offset + m * step.size + k) (let e : i ≡ i + 0 = omega arith in e)) known
  climb (suc n) i k label h lt known =
      let e : i + n + 1 ≡ i + suc n = omega arith in
      moved _ _ label (ap (λ (m : ℕ). span.offset + m * step.size + k) e) (up (i + n) k label (omega (arith, h)) lt (climb n i k label (omega (arith, h)) lt known))

  sink : (n i k : ℕ) (label : Label) → i + n < step.count → k < step.size → Known (span.offset + (i + n) * step.size + k) label → Known (span.offset + i * step.size + k) label
  sink zero i k label h lt known = moved _ _ label (ap (λ (m : ℕ). span.offset + m * step.size + k) (let e : i + 0 ≡ i = omega arith in e)) known
  sink (suc n) i k label h lt known =
      let e : i + suc n ≡ i + n + 1 = omega arith in
      sink n i k label (omega (arith, h)) lt (down (i + n) k label (omega (arith, h)) lt (moved _ _ label (ap (λ (m : ℕ). span.offset + m * step.size + k) e) known))

  any_two : (i j : ℕ) → i < step.count → j < step.count → HasSame facts (occurrence span step i) (occurrence span step j)
  unfolding Known
  any_two i j hi hj = λ k label lt known. elim (cases_lt i j) [
    | inl before ↦
        let e : i + (j - i) ≡ j = omega (arith, before) in
        moved _ _ label (ap (λ (m : ℕ). span.offset + m * step.size + k) e) (climb (j - i) i k label (omega (arith, e, hj)) lt known)
    | inr after ↦
        let e : i ≡ j + (i - j) = omega (arith, after) in
        sink (i - j) j k label (omega (arith, e, hi)) lt (moved _ _ label (ap (λ (m : ℕ). span.offset + m * step.size + k) e) known)
  ]

pub occurrences_alike : (given : List RuleInst) (at : Origin) (span : Span) (step : Step) → Contains given (table_inst at span step) → AreOccurrencesAlike given span step
occurrences_alike given at span step there = λ i j hi hj facts closed. any_two given at span step there facts closed i j hi hj
