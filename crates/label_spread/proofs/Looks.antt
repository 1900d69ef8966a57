-- Rules that don't look at a byte don't react to facts about it.
use Rattle.std.proofs.Common.{◌≡◌, ◌⊎◌, inl, inr, arith, ℕ, ◌+◌, ◌-◌, ◌<◌, ◌≤◌, List, [], ◌∷◌, ◌++◌, length, get_or, sym, ap, ◌∙◌, subst, Contains, All}
use Rattle.std.proofs.lemmas.Bool.{cases_lt}
use Rattle.std.proofs.lemmas.List.{get_or_default}
use Rattle.std.proofs.lemmas.List.Elements.{Contains-push_cases}
use Rattle.y2k_base.specs.declared.place.BytePlace.{BytePlace}
use Rattle.y2k_base.specs.declared.place.Span.{Span}
use Rattle.year_labels.specs.declared.label.Fact.{Fact}
use Rattle.year_labels.specs.declared.rule.View.{View}
use Rattle.year_labels.specs.declared.rule.View.TheVariants as views
use Rattle.year_labels.specs.declared.rule.RuleForm.{RuleForm}
use Rattle.year_labels.specs.declared.rule.RuleForm.TheVariants as forms
use Rattle.year_labels.specs.declared.rule.RuleInst.{RuleInst}
use Rattle.year_labels.specs.Facts.{fact_in}
use Rattle.year_labels.specs.Forms.{IsFit, IsCopied, Follows}
use Rattle.label_spread.specs.declared.slots.Slot.{Slot}
use Rattle.year_labels.specs.Derivation.{FollowsByOne}
use Rattle.label_spread.specs.Steps.{Extends, Reacts, ReactsBy, IsPartOf, IsInSpan, IsInView, FollowsAlike, Touches}
use Rattle.label_spread.specs.Slots.{slot_of, byte_at, LooksAt, IsIndexOf}
use Rattle.label_spread.proofs.Growth.{Extends-refl, Extends-trans, Extends-weaker, Extends-contains}
use Rattle.label_spread.proofs.Local.{split, from_alike, from_whole, FollowsWhole-apart}

in_span_or_not : (span : Span) (place : BytePlace) → IsInSpan span place ⊎ (IsInSpan span place → ⊥)
in_span_or_not span place = elim (cases_lt place.area.0 span.area.0) [
  | inl less ↦ inr (λ h. let e : place.area.0 ≡ span.area.0 = ap (λ (p : BytePlace). p.area.0) h.2 in absurd (omega (arith, less, e)))
  | inr up ↦ elim (cases_lt span.area.0 place.area.0) [
    | inl more ↦ inr (λ h. let e : place.area.0 ≡ span.area.0 = ap (λ (p : BytePlace). p.area.0) h.2 in absurd (omega (arith, more, e)))
    | inr down ↦
        let area : place.area.0 ≡ span.area.0 = omega arith in
        elim (cases_lt place.offset span.offset) [
          | inl before ↦ inr (λ h. let e : place.offset ≡ span.offset + h.0 = ap (λ (p : BytePlace). p.offset) h.2 in absurd (omega (arith, before, e)))
          | inr from ↦ elim (cases_lt place.offset (span.offset + span.length)) [
            | inl within ↦
                let offset : place.offset ≡ span.offset + (place.offset - span.offset) = omega arith in
                inl (place.offset - span.offset, omega arith, λ i. record { area = record { 0 = area i }; offset = offset i })
            | inr past ↦ inr (λ h. let e : place.offset ≡ span.offset + h.0 = ap (λ (p : BytePlace). p.offset) h.2 in absurd (omega (arith, past, e, h.1)))
          ]
        ]
  ]
]

or_not : {A B : Type 0} → A ⊎ (A → ⊥) → B ⊎ (B → ⊥) → (A ⊎ B) ⊎ (A ⊎ B → ⊥)
or_not {A} {B} (inl a) b = inl (inl a)
or_not {A} {B} (inr no_a) (inl b) = inl (inr b)
or_not {A} {B} (inr no_a) (inr no_b) = inr (λ h. elim h [ inl a ↦ no_a a | inr b ↦ no_b b ])

in_view_or_not : (view : View) (place : BytePlace) → IsInView view place ⊎ (IsInView view place → ⊥)
in_view_or_not (views.Bytes span powers) place = in_span_or_not span place
in_view_or_not (views.Packed span digits) place = in_span_or_not span place
in_view_or_not views.Plain place = inr (λ h. h)

looks_or_not : (form : RuleForm) (place : BytePlace) → LooksAt form place ⊎ (LooksAt form place → ⊥)
looks_or_not (forms.Give fact) place = in_span_or_not (byte_at fact.place) place
looks_or_not (forms.GiveDigit view power role) place = in_view_or_not view place
looks_or_not (forms.Alike a b) place = or_not (in_span_or_not a place) (in_span_or_not b place)
looks_or_not (forms.Digits a b) place = or_not (in_view_or_not a place) (in_view_or_not b place)
looks_or_not (forms.Fill view from) place = in_view_or_not view place
looks_or_not (forms.Sum a b c) place = or_not (in_view_or_not a place) (or_not (in_view_or_not b place) (in_view_or_not c place))
looks_or_not (forms.Difference a b c) place = or_not (in_view_or_not a place) (or_not (in_view_or_not b place) (in_view_or_not c place))

touches_looks : (form : RuleForm) (place : BytePlace) → Touches form place → LooksAt form place
touches_looks (forms.Give fact) place h = absurd h
touches_looks (forms.GiveDigit view power role) place h = h
touches_looks (forms.Alike a b) place h = absurd h
touches_looks (forms.Digits a b) place h = h
touches_looks (forms.Fill view from) place h = h
touches_looks (forms.Sum a b c) place h = h
touches_looks (forms.Difference a b c) place h = h

copied_apart : (a b : Span) (front : List Fact) (fact f : Fact) → (IsInSpan a fact.place → ⊥) → IsCopied a b (front ++ fact ∷ []) f → IsCopied a b front f
copied_apart a b front fact f apart h = elim (Contains-push_cases front fact (fact_in a h.0 h.1) h.3) [
  | inl before ↦ (h.0, h.1, h.2, before, h.4)
  | inr same ↦ absurd (apart (h.0, h.2, ap (λ (g : Fact). g.place) same))
]

alike_apart : (form : RuleForm) (front : List Fact) (fact f : Fact) → (LooksAt form fact.place → ⊥) → FollowsAlike form (front ++ fact ∷ []) f → FollowsAlike form front f
alike_apart (forms.Give fact_given) front fact f apart h = h
alike_apart (forms.GiveDigit view power role) front fact f apart h = h
alike_apart (forms.Alike a b) front fact f apart (inl h) = inl (copied_apart a b front fact f (λ t. apart (inl t)) h)
alike_apart (forms.Alike a b) front fact f apart (inr h) = inr (copied_apart b a front fact f (λ t. apart (inr t)) h)
alike_apart (forms.Digits a b) front fact f apart h = h
alike_apart (forms.Fill view from) front fact f apart h = h
alike_apart (forms.Sum a b c) front fact f apart h = h
alike_apart (forms.Difference a b c) front fact f apart h = h

Follows-apart : (form : RuleForm) (front : List Fact) (fact f : Fact) → IsFit form → (LooksAt form fact.place → ⊥) → Follows form (front ++ fact ∷ []) f → Follows form front f
Follows-apart form front fact f fit apart h = elim (split form (front ++ fact ∷ []) f h) [
  | inl alike ↦ from_alike form front f (alike_apart form front fact f apart alike)
  | inr whole ↦ from_whole form front f (FollowsWhole-apart form fact fit (λ t. apart (touches_looks form fact.place t)) front f whole)
]

module _ (rules : List RuleInst) where
  pub ReactsBy-one : (index : ℕ) (rule : RuleInst) (fact : Fact) (old new : List Fact) → index < length rules → get_or rules index rule ≡ rule → Reacts (Follows rule.form) fact old new → ReactsBy rules index fact old new
  ReactsBy-one index rule fact old new low is a = record {
    extends = Extends-weaker (Follows rule.form) (FollowsByOne rules) old new (λ xs f known h. (rule, (index, low, is), h)) a.extends;
    all = λ other at other_is front f part h.
        let same : rule ≡ other = sym is ∙ get_or_default rules index rule other low ∙ other_is in
        elim (a.all front f part (subst (λ (r : RuleInst). Follows r.form (front ++ fact ∷ []) f) (sym same) h)) [
          | inl before ↦ inl (subst (λ (r : RuleInst). Follows r.form front f) same before)
          | inr there ↦ inr there
        ];
  }

  pub ReactsBy-none : (index : ℕ) (fact : Fact) (old : List Fact) → length rules ≤ index → ReactsBy rules index fact old old
  ReactsBy-none index fact old past = record { extends = Extends-refl (FollowsByOne rules) old; all = λ rule low is front f part h. absurd (omega (arith, low, past)) }

  -- the rules of the first i slots have reacted
  pub record ReactsAmong (found : List Slot) (fact : Fact) (old now : List Fact) (i : ℕ) : Type 0 where
    pub extends : Extends (FollowsByOne rules) old now
    pub all : (j : ℕ) (slot : Slot) (rule : RuleInst) → j < i → get_or found j slot ≡ slot → slot.rule < length rules → get_or rules slot.rule rule ≡ rule → (front : List Fact) (f : Fact) → IsPartOf front old → Follows rule.form (front ++ fact ∷ []) f → Follows rule.form front f ⊎ Contains now f

  pub ReactsAmong-none : (found : List Slot) (fact : Fact) (old : List Fact) → ReactsAmong found fact old old 0
  ReactsAmong-none found fact old = record { extends = Extends-refl (FollowsByOne rules) old; all = λ j slot rule low. absurd (omega arith) }

  pub ReactsAmong-there : (found : List Slot) (fact : Fact) (old now : List Fact) (i : ℕ) → Contains old fact → ReactsAmong found fact old now i → Contains now fact
  ReactsAmong-there found fact old now i there a = Extends-contains (FollowsByOne rules) old now fact a.extends there

  pub ReactsAmong-more : (found : List Slot) (fact : Fact) (old now next : List Fact) (i : ℕ) (slot : Slot) → i < length found → slot ≡ get_or found i slot → ReactsAmong found fact old now i → ReactsBy rules slot.rule fact now next → ReactsAmong found fact old next (i + 1)
  ReactsAmong-more found fact old now next i slot lt is a b = record {
    extends = Extends-trans (FollowsByOne rules) old now next a.extends b.extends;
    all = λ j other rule low at below known front f part h. elim (cases_lt j i) [
      | inl before ↦ elim (a.all j other rule before at below known front f part h) [
        | inl earlier ↦ inl earlier
        | inr there ↦ inr (Extends-contains (FollowsByOne rules) now next f b.extends there)
      ]
      | inr after ↦
          let here : j ≡ i = omega arith in
          let same : slot ≡ other = is ∙ get_or_default found i slot other lt ∙ sym (ap (λ n. get_or found n other) here) ∙ at in
          let index : other.rule ≡ slot.rule = sym (ap (λ (s : Slot). s.rule) same) in
          b.all rule (omega (arith, below, index)) (ap (λ n. get_or rules n rule) (sym index) ∙ known) front f (λ g seen. Extends-contains (FollowsByOne rules) old now g a.extends (part g seen)) h
    ];
  }

  pub ReactsAmong-all : (found slots : List Slot) (fact : Fact) (old now : List Fact) (i : ℕ) → All (λ (r : RuleInst). IsFit r.form) rules → IsIndexOf rules slots → ((k : ℕ) → Contains slots (slot_of fact.place k) → Contains found (slot_of fact.place k)) → length found ≤ i → ReactsAmong found fact old now i → Reacts (FollowsByOne rules) fact old now
  ReactsAmong-all found slots fact old now i fit indexed ranged le a = record {
    extends = a.extends;
    all = λ front f part h.
        let rule : RuleInst = h.0 in
        let k : ℕ = h.1.0 in
        let low : k < length rules = h.1.1 in
        let is : get_or rules k rule ≡ rule = h.1.2 in
        elim (looks_or_not rule.form fact.place) [
          | inl looks ↦
              let at : Contains found (slot_of fact.place k) = ranged k (indexed k rule fact.place low (subst (λ (r : RuleInst). LooksAt r.form fact.place) (sym is) looks)) in
              elim (a.all at.0 (slot_of fact.place k) rule (omega (arith, at.1, le)) at.2 low is front f part h.2) [
                | inl earlier ↦ inl (rule, h.1, earlier)
                | inr there ↦ inr there
              ]
          | inr apart ↦
              let fits : IsFit rule.form = subst (λ (r : RuleInst). IsFit r.form) is (fit k rule low) in
              inl (rule, h.1, Follows-apart rule.form front fact f fits apart h.2)
        ];
  }
