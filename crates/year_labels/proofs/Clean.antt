-- A list that ascends and no neighbours of which are of one place has no two facts of one place.
use Rattle.std.proofs.Common.{◌≡◌, ◌⊎◌, inl, inr, arith, ℕ, ◌+◌, ◌-◌, ◌<◌, ◌≤◌, List, length, get_or, refl, sym, ap, ◌∙◌, subst, Contains}
use Rattle.std.specs.declared.cmp.Ordering.{Ordering}
use Rattle.std.specs.declared.cmp.Ordering.TheVariants.{Less, Equal, Greater}
use Rattle.std.specs.Ordering.{nat_cmp, ordering_then, MatchOrdering}
use Rattle.std.specs.Cmp.{tied_itself}
use Rattle.std.proofs.lemmas.Bool.{cases_lt}
use Rattle.std.proofs.lemmas.Cmp.{ranked}
use Rattle.std.proofs.lemmas.List.{get_or_default}
use Rattle.std.proofs.lemmas.List.Elements.{Contains-get_or}
use Rattle.y2k_base.specs.declared.place.BytePlace.{BytePlace}
use Rattle.year_labels.specs.declared.label.Fact.{Fact}
use Rattle.year_labels.specs.Facts.{IsClean, fact_of}
use Rattle.year_labels.specs.Order.{fact_cmp, label_cmp, IsAscending}
use Rattle.year_labels.proofs.Total.{less_before, fact_total}

-- not after it
abbrev pub IsUpTo : BytePlace → BytePlace → Type 0
IsUpTo p q = (p.area.0 < q.area.0) ⊎ ((p.area.0 ≡ q.area.0) × (p.offset ≤ q.offset))

up_to_by : (p q : BytePlace) (r s l : Ordering) → MatchOrdering r (p.area.0 < q.area.0) (p.area.0 ≡ q.area.0) (q.area.0 < p.area.0) → MatchOrdering s (p.offset < q.offset) (p.offset ≡ q.offset) (q.offset < p.offset) → ordering_then (ordering_then r s) l ≡ Less → IsUpTo p q
up_to_by p q Less s l m n e = inl m
up_to_by p q Equal Less l m n e = inr (m, omega (arith, n))
up_to_by p q Equal Equal l m n e = inr (m, omega (arith, n))
up_to_by p q Equal Greater l m n e = absurd (let f : Greater ≡ Less = e in cc)
up_to_by p q Greater s l m n e = absurd (let f : Greater ≡ Less = e in cc)

pub up_to : (f g : Fact) → fact_cmp f g ≡ Less → IsUpTo f.place g.place
up_to f g e =
    up_to_by f.place g.place (nat_cmp f.place.area.0 g.place.area.0) (nat_cmp f.place.offset g.place.offset) (label_cmp f.label g.label)
    (ranked f.place.area.0 g.place.area.0 _ refl) (ranked f.place.offset g.place.offset _ refl) e

between : (p q : BytePlace) → IsUpTo p q → IsUpTo q p → p ≡ q
between p q (inl a) (inl b) = absurd (omega (arith, a, b))
between p q (inl a) (inr b) = absurd (omega (arith, a, b.0))
between p q (inr a) (inl b) = absurd (omega (arith, a.0, b))
between p q (inr a) (inr b) =
    let area : p.area.0 ≡ q.area.0 = a.0 in
    let offset : p.offset ≡ q.offset = omega (arith, a.1, b.1) in
    λ i. record { area = record { 0 = area i }; offset = offset i }

-- the neighbours among the first are of two places
abbrev pub AreApart : List Fact → ℕ → Type 0
AreApart facts i = (k : ℕ) (d : Fact) → k + 1 < i → (get_or facts k d).place ≡ (get_or facts (k + 1) d).place → ⊥

apart : (facts : List Fact) (i j : ℕ) (d : Fact) → IsAscending facts → AreApart facts (length facts) → i < j → j < length facts → (get_or facts i d).place ≡ (get_or facts j d).place → ⊥
apart facts i j d sorted far low high e = elim (cases_lt (i + 1) j) [
  | inl beyond ↦
      let first : IsUpTo (get_or facts i d).place (get_or facts (i + 1) d).place = up_to (get_or facts i d) (get_or facts (i + 1) d) (less_before fact_cmp facts i (i + 1) d sorted (omega arith) (omega (arith, high))) in
      let second : IsUpTo (get_or facts (i + 1) d).place (get_or facts j d).place = up_to (get_or facts (i + 1) d) (get_or facts j d) (less_before fact_cmp facts (i + 1) j d sorted beyond high) in
      far i d (omega (arith, high)) (between (get_or facts i d).place (get_or facts (i + 1) d).place first (subst (λ (p : BytePlace). IsUpTo (get_or facts (i + 1) d).place p) (sym e) second))
  | inr near ↦
      let is : j ≡ i + 1 = omega arith in
      far i d (omega (arith, high)) (e ∙ ap (λ (n : ℕ). (get_or facts n d).place) is)
]

pub clean_all : (facts : List Fact) → IsAscending facts → AreApart facts (length facts) → IsClean facts
clean_all facts sorted far f g at there e =
    let i : ℕ = at.0 in
    let j : ℕ = there.0 in
    let first : get_or facts i f ≡ f = at.2 in
    let second : get_or facts j f ≡ g = get_or_default facts j f g there.1 ∙ there.2 in
    let places : (get_or facts i f).place ≡ (get_or facts j f).place = ap (λ (h : Fact). h.place) first ∙ e ∙ sym (ap (λ (h : Fact). h.place) second) in
    elim (cases_lt i j) [
      | inl below ↦ absurd (apart facts i j f sorted far below there.1 places)
      | inr above ↦ elim (cases_lt j i) [
        | inl after ↦ absurd (apart facts j i f sorted far after at.1 (sym places))
        | inr same ↦
            let is : i ≡ j = omega arith in
            ap (λ (h : Fact). h.label) (sym first ∙ ap (λ (n : ℕ). get_or facts n f) is ∙ second)
      ]
    ]

-- neighbours of one place
pub unclean : (facts : List Fact) (i : ℕ) (f g : Fact) → IsAscending facts → 0 < i → i < length facts → f ≡ get_or facts (i - 1) f → g ≡ get_or facts i g → f.place ≡ g.place → IsClean facts → ⊥
unclean facts i f g sorted high low first second places clean =
    let there : Contains facts f = subst (λ (h : Fact). Contains facts h) (sym first) (Contains-get_or facts (i - 1) f (omega (arith, low))) in
    let next : Contains facts g = subst (λ (h : Fact). Contains facts h) (sym second) (Contains-get_or facts i g low) in
    let labels : f.label ≡ g.label = clean f g there next places in
    let same : f ≡ g = λ i. fact_of (places i) (labels i) in
    let less : fact_cmp (get_or facts (i - 1) f) (get_or facts i f) ≡ Less = less_before fact_cmp facts (i - 1) i f sorted (omega (arith, high)) low in
    let shown : fact_cmp f g ≡ Less = subst (λ (h : Fact). fact_cmp h g ≡ Less) (sym first)
    (subst (λ (h : Fact). fact_cmp (get_or facts (i - 1) f) h ≡ Less) (get_or_default facts i f g low ∙ sym second) less) in
    absurd (let e : Less ≡ Equal = sym shown ∙ subst (λ (h : Fact). fact_cmp f h ≡ Equal) same (tied_itself fact_total f) in cc)
