-- The label of one byte, given to another.
use Rattle.std.proofs.Common.{◌≡◌, inl, inr, ℕ, ◌<◌, List, sym, ap, ◌∙◌, subst, arith, Contains}
use Rattle.std.proofs.lemmas.List.Elements.{Contains-push_cases}
use Rattle.y2k_base.specs.declared.place.Span.{Span}
use Rattle.y2k_base.specs.declared.place.BytePlace.{BytePlace}
use Rattle.year_labels.specs.declared.label.Fact.{Fact}
use Rattle.year_labels.specs.Facts.{fact_in, fact_of, place_in}
use Rattle.year_labels.specs.Forms.{IsCopied}
use Rattle.label_spread.specs.Steps.{Adds, Reacts, IsInSpan}
use Rattle.label_spread.proofs.Growth.{Extends-weaker, Reacts-none}

same_index : (span : Span) (i j : ℕ) → place_in span i ≡ place_in span j → i ≡ j
same_index span i j e = omega (arith, ap (λ (p : BytePlace). p.offset) e)

same_fact : (span : Span) (fact : Fact) (i : ℕ) → fact.place ≡ place_in span i → fact ≡ fact_in span i fact.label
same_fact span fact i e = ap (λ (p : BytePlace). fact_of p fact.label) e

pub Reacts-copied : (a b : Span) (fact : Fact) (i : ℕ) (old new : List Fact) → i < a.length → fact.place ≡ place_in a i → Contains old fact → Adds (λ _ f. f ≡ fact_in b i fact.label) old new → Reacts (IsCopied a b) fact old new
Reacts-copied a b fact i old new lt is there added = record {
  extends = Extends-weaker (λ _ f. f ≡ fact_in b i fact.label) (IsCopied a b) old new
      (λ xs f known e. (i, fact.label, lt, subst (λ (g : Fact). Contains xs g) (same_fact a fact i is) (known fact there), e)) added.extends;
  all = λ front f part h. elim (Contains-push_cases front fact (fact_in a h.0 h.1) h.3) [
    | inl before ↦ inl (h.0, h.1, h.2, before, h.4)
    | inr same ↦
        let index : h.0 ≡ i = same_index a h.0 i (sym (ap (λ (g : Fact). g.place) same) ∙ is) in
        let label : h.1 ≡ fact.label = sym (ap (λ (g : Fact). g.label) same) in
        inr (added.all f (h.4 ∙ ap (λ n. fact_in b n h.1) index ∙ ap (fact_in b i) label))
  ];
}

pub Reacts-apart : (a b : Span) (fact : Fact) (old : List Fact) → (IsInSpan a fact.place → ⊥) → Reacts (IsCopied a b) fact old old
Reacts-apart a b fact old apart = Reacts-none (IsCopied a b) fact old (λ front f h. elim (Contains-push_cases front fact (fact_in a h.0 h.1) h.3) [
  | inl before ↦ (h.0, h.1, h.2, before, h.4)
  | inr same ↦ absurd (apart (h.0, h.2, ap (λ (g : Fact). g.place) same))
])
