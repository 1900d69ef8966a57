-- The order of facts is total, and only equal facts tie.
use Rattle.std.proofs.Common.{◌≡◌, inl, inr, arith, ℕ, zero, suc, ◌<◌, ◌≤◌, List, [], ◌∷◌, length, get_or, refl, sym, ap, ◌∙◌, subst, Contains, true, false}
use Rattle.std.specs.Cmp.{IsTotalOrder}
use Rattle.std.specs.declared.cmp.Ordering.{Ordering}
use Rattle.std.specs.declared.cmp.Ordering.TheVariants.{Less, Equal, Greater}
use Rattle.std.specs.Ordering.{nat_cmp, ordering_then, ordering_index, is_gt, on, then_cmp}
use Rattle.std.specs.List.Sorted.{IsStrictlySortedBy, IsNonDecreasingBy, IsPartitionPoint}
use Rattle.std.specs.Cmp.{upto, tied_itself, nat_cmp_total, on_total, then_total}
use Rattle.std.proofs.lemmas.Map.Lookups.{exact_unsigned}
use Rattle.std.proofs.lemmas.Map.Keys.{sorted_tail}
use Rattle.std.proofs.lemmas.Map.Views.{All-after_first}
use Rattle.std.proofs.lemmas.Bool.{cases_lt}
use Rattle.y2k_base.specs.declared.place.BytePlace.{BytePlace}
use Rattle.year_labels.specs.declared.label.Fact.{Fact}
use Rattle.year_labels.specs.declared.label.Label.{Label}
use Rattle.year_labels.specs.declared.label.Label.TheVariants.{Tens, Units, Plain, Packed}
use Rattle.year_labels.specs.contracts.label.FactOrd.TheImpl as derived
use Rattle.year_labels.specs.Facts.{fact_of}
use Rattle.year_labels.specs.Order.{fact_cmp, place_cmp, label_cmp, IsAscending}

-- a label as four numbers
abbrev kind : Label → ℕ
kind Tens = 0
kind Units = 1
kind Plain = 2
kind (Packed d u b) = 3

abbrev digits : Label → ℕ
digits Tens = 0
digits Units = 0
digits Plain = 0
digits (Packed d u b) = d

abbrev unit : Label → ℕ
unit Tens = 0
unit Units = 0
unit Plain = 0
unit (Packed d u b) = u

abbrev byte : Label → ℕ
byte Tens = 0
byte Units = 0
byte Plain = 0
byte (Packed d u b) = b

abbrev number_cmp : Label → Label → Ordering
number_cmp = then_cmp (on kind nat_cmp) (then_cmp (on digits nat_cmp) (then_cmp (on unit nat_cmp) (on byte nat_cmp)))

same_order : (a b : Label) → number_cmp a b ≡ label_cmp a b
same_order Tens Tens = refl
same_order Tens Units = refl
same_order Tens Plain = refl
same_order Tens (Packed d u b) = refl
same_order Units Tens = refl
same_order Units Units = refl
same_order Units Plain = refl
same_order Units (Packed d u b) = refl
same_order Plain Tens = refl
same_order Plain Units = refl
same_order Plain Plain = refl
same_order Plain (Packed d u b) = refl
same_order (Packed d u b) Tens = refl
same_order (Packed d u b) Units = refl
same_order (Packed d u b) Plain = refl
same_order (Packed d u b) (Packed e v c) = refl

number_total : IsTotalOrder number_cmp
number_total = then_total (on_total kind nat_cmp_total) (then_total (on_total digits nat_cmp_total) (then_total (on_total unit nat_cmp_total) (on_total byte nat_cmp_total)))

label_total : IsTotalOrder label_cmp
label_total = subst (λ (r : Label → Label → Ordering). IsTotalOrder r) (λ i a b. same_order a b i) number_total

pub place_total : IsTotalOrder place_cmp
place_total = then_total (on_total (λ (p : BytePlace). p.area.0) nat_cmp_total) (on_total (λ (p : BytePlace). p.offset) nat_cmp_total)

pub fact_total : IsTotalOrder fact_cmp
fact_total = then_total (on_total (λ (f : Fact). f.place) place_total) (on_total (λ (f : Fact). f.label) label_total)

then_equal : (r s : Ordering) → ordering_then r s ≡ Equal → (r ≡ Equal) × (s ≡ Equal)
then_equal Less s e = absurd (let f : Less ≡ Equal = e in cc)
then_equal Equal s e = (refl, e)
then_equal Greater s e = absurd (let f : Greater ≡ Equal = e in cc)

place_exact : (p q : BytePlace) → place_cmp p q ≡ Equal → p ≡ q
place_exact p q e =
    let both = then_equal (nat_cmp p.area.0 q.area.0) (nat_cmp p.offset q.offset) e in
    let area : p.area.0 ≡ q.area.0 = exact_unsigned p.area.0 q.area.0 both.0 in
    let offset : p.offset ≡ q.offset = exact_unsigned p.offset q.offset both.1 in
    λ i. record { area = record { 0 = area i }; offset = offset i }

label_exact : (a b : Label) → label_cmp a b ≡ Equal → a ≡ b
label_exact Tens Tens e = refl
label_exact Tens Units e = absurd (let f : Less ≡ Equal = e in cc)
label_exact Tens Plain e = absurd (let f : Less ≡ Equal = e in cc)
label_exact Tens (Packed d u b) e = absurd (let f : Less ≡ Equal = e in cc)
label_exact Units Tens e = absurd (let f : Greater ≡ Equal = e in cc)
label_exact Units Units e = refl
label_exact Units Plain e = absurd (let f : Less ≡ Equal = e in cc)
label_exact Units (Packed d u b) e = absurd (let f : Less ≡ Equal = e in cc)
label_exact Plain Tens e = absurd (let f : Greater ≡ Equal = e in cc)
label_exact Plain Units e = absurd (let f : Greater ≡ Equal = e in cc)
label_exact Plain Plain e = refl
label_exact Plain (Packed d u b) e = absurd (let f : Less ≡ Equal = e in cc)
label_exact (Packed d u b) Tens e = absurd (let f : Greater ≡ Equal = e in cc)
label_exact (Packed d u b) Units e = absurd (let f : Greater ≡ Equal = e in cc)
label_exact (Packed d u b) Plain e = absurd (let f : Greater ≡ Equal = e in cc)
label_exact (Packed d u b) (Packed f v c) e =
    let first = then_equal (nat_cmp d f) _ e in
    let second = then_equal (nat_cmp u v) (nat_cmp b c) first.1 in
    let x : d ≡ f = exact_unsigned d f first.0 in
    let y : u ≡ v = exact_unsigned u v second.0 in
    let z : b ≡ c = exact_unsigned b c second.1 in
    λ i. Packed (x i) (y i) (z i)

pub fact_exact : (f g : Fact) → fact_cmp f g ≡ Equal → f ≡ g
fact_exact f g e =
    let both = then_equal (place_cmp f.place g.place) (label_cmp f.label g.label) e in
    let place : f.place ≡ g.place = place_exact f.place g.place both.0 in
    let label : f.label ≡ g.label = label_exact f.label g.label both.1 in
    λ i. record { place = place i; label = label i }

at_most_two : (r : Ordering) → ordering_index r ≤ 2
at_most_two Less = omega arith
at_most_two Equal = omega arith
at_most_two Greater = omega arith

at_most_one : (r : Ordering) → is_gt r ≡ false → ordering_index r ≤ 1
at_most_one Less e = omega arith
at_most_one Equal e = omega arith
at_most_one Greater e = absurd (let f : true ≡ false = e in cc)

-- in a list that ascends, what stands before is less
module _ {K : Type 0} (cmp : K → K → Ordering) where
  pub less_before : (xs : List K) (i j : ℕ) (d : K) → IsStrictlySortedBy cmp xs → i < j → j < length xs → cmp (get_or xs i d) (get_or xs j d) ≡ Less
  less_before [] i j d sorted low high = absurd (omega (arith, high))
  less_before (x ∷ xs) i zero d sorted low high = absurd (omega arith)
  less_before (x ∷ xs) zero (suc j) d sorted low high = All-after_first cmp x xs sorted j d (omega (arith, high))
  less_before (x ∷ xs) (suc i) (suc j) d sorted low high = less_before xs i j d (sorted_tail cmp x xs sorted) (omega arith) (omega (arith, high))

  pub rises : IsTotalOrder cmp → (xs : List K) (x : K) → IsStrictlySortedBy cmp xs → IsNonDecreasingBy (λ y. ordering_index (cmp y x)) xs
  rises o xs x sorted i j d le high = elim (cases_lt i j) [
    | inl below ↦
        let less : cmp (get_or xs i d) (get_or xs j d) ≡ Less = less_before xs i j d sorted below high in
        elim (cmp (get_or xs j d) x) as (λ (r : Ordering). cmp (get_or xs j d) x ≡ r → ordering_index (cmp (get_or xs i d) x) ≤ ordering_index r) [
          | Less ↦ λ e. subst (λ (r : Ordering). ordering_index r ≤ 0) (sym (o.trans (get_or xs i d) (get_or xs j d) x less e)) (omega arith)
          | Equal ↦ λ e. at_most_one (cmp (get_or xs i d) x) (upto o (get_or xs i d) (get_or xs j d) x (ap is_gt less) (ap is_gt e))
          | Greater ↦ λ e. at_most_two (cmp (get_or xs i d) x)
        ] refl
    | inr same ↦
        let is : i ≡ j = omega arith in
        subst (λ (k : ℕ). ordering_index (cmp (get_or xs i d) x) ≤ ordering_index (cmp (get_or xs k d) x)) is (omega arith)
  ]

module _ (facts : List Fact) (sorted : IsAscending facts) (fact : Fact) where
  pub found : (i : ℕ) → i < length facts → ((d : Fact) → fact_cmp (get_or facts i d) fact ≡ Equal) → Contains facts fact
  found i low ties = (i, low, fact_exact (get_or facts i fact) fact (ties fact))

  pub missing : (i : ℕ) → i ≤ length facts → IsPartitionPoint (λ g. fact_cmp g fact ≡ Less) (λ g. fact_cmp g fact ≡ Greater) facts i → Contains facts fact → ⊥
  missing i low point there =
      let k : ℕ = there.0 in
      let ties : fact_cmp (get_or facts k fact) fact ≡ Equal = subst (λ (g : Fact). fact_cmp g fact ≡ Equal) (sym there.2) (tied_itself fact_total fact) in
      elim (cases_lt k i) [
        | inl below ↦ absurd (let e : Less ≡ Equal = sym (point.0 k fact (omega arith) below) ∙ ties in cc)
        | inr above ↦ absurd (let e : Greater ≡ Equal = sym (point.1 k fact above there.1) ∙ ties in cc)
      ]

same_at : (p q : BytePlace) (a b : Label) → derived.ghosts.cmp (fact_of p a) (fact_of q b) ≡ fact_cmp (fact_of p a) (fact_of q b)
same_at p q Tens Tens = refl
same_at p q Tens Units = refl
same_at p q Tens Plain = refl
same_at p q Tens (Packed d u b) = refl
same_at p q Units Tens = refl
same_at p q Units Units = refl
same_at p q Units Plain = refl
same_at p q Units (Packed d u b) = refl
same_at p q Plain Tens = refl
same_at p q Plain Units = refl
same_at p q Plain Plain = refl
same_at p q Plain (Packed d u b) = refl
same_at p q (Packed d u b) Tens = refl
same_at p q (Packed d u b) Units = refl
same_at p q (Packed d u b) Plain = refl
same_at p q (Packed d u b) (Packed e v c) = refl

-- the order that is derived for facts is this one
pub same_cmp : (f g : Fact) → derived.ghosts.cmp f g ≡ fact_cmp f g
same_cmp f g = same_at f.place g.place f.label g.label
