-- Slots of an index: their order, those of one block, and those of a span.
use Rattle.std.proofs.Common.{cond, ◌≡◌, ◌⊎◌, inl, inr, arith, ℕ, ◌+◌, ◌-◌, ◌/◌, ◌<◌, ◌≤◌, Bool, true, false, not, ◌&&◌, List, [], ◌∷◌, refl, sym, ap, ◌∙◌, subst, Contains}
use Rattle.std.specs.declared.cmp.Ordering.{Ordering}
use Rattle.std.specs.declared.cmp.Ordering.TheVariants.{Less, Equal, Greater}
use Rattle.std.specs.Ordering.{nat_cmp, ordering_then, MatchOrdering, is_le}
use Rattle.std.specs.List.{filter}
use Rattle.std.proofs.lemmas.Bool.{cases_lt}
use Rattle.std.proofs.lemmas.Cmp.{ranked}
use Rattle.std.proofs.lemmas.Map.Lookups.{exact_unsigned}
use Rattle.std.proofs.lemmas.List.Elements.{Contains-append_left, Contains-append_right, Contains-append_cases, Contains-push, Contains-push_cases}
use Rattle.y2k_base.specs.declared.place.BytePlace.{BytePlace}
use Rattle.y2k_base.specs.declared.place.Span.{Span}
use Rattle.label_spread.specs.declared.slots.Slot.{Slot}
use Rattle.label_spread.specs.contracts.slots.SlotOrd.TheImpl as derived
use Rattle.label_spread.specs.Steps.{IsInSpan}
use Rattle.label_spread.specs.Slots.{slot_cmp, slot_in, slot_of, Indexes, is_of_block, slots_of_block}

pub same_cmp : (s t : Slot) → derived.ghosts.cmp s t ≡ slot_cmp s t
same_cmp s t = refl

then_equal : (r s : Ordering) → ordering_then r s ≡ Equal → (r ≡ Equal) × (s ≡ Equal)
then_equal Less s e = absurd (let f : Less ≡ Equal = e in cc)
then_equal Equal s e = (refl, e)
then_equal Greater s e = absurd (let f : Greater ≡ Equal = e in cc)

pub slot_exact : (s t : Slot) → slot_cmp s t ≡ Equal → s ≡ t
slot_exact s t e =
    let first = then_equal (nat_cmp s.area.0 t.area.0) (ordering_then (nat_cmp s.block t.block) (nat_cmp s.rule t.rule)) e in
    let second = then_equal (nat_cmp s.block t.block) (nat_cmp s.rule t.rule) first.1 in
    let area : s.area.0 ≡ t.area.0 = exact_unsigned s.area.0 t.area.0 first.0 in
    let block : s.block ≡ t.block = exact_unsigned s.block t.block second.0 in
    let rule : s.rule ≡ t.rule = exact_unsigned s.rule t.rule second.1 in
    λ i. record { area = record { 0 = area i }; block = block i; rule = rule i }

tie : (n : ℕ) → nat_cmp n n ≡ Equal
tie n = elim (nat_cmp n n) as (λ (r : Ordering). MatchOrdering r (n < n) (n ≡ n) (n < n) → r ≡ Equal) [
  | Less ↦ λ m. absurd (omega (arith, m))
  | Equal ↦ λ m. refl
  | Greater ↦ λ m. absurd (omega (arith, m))
] (ranked n n (nat_cmp n n) refl)

above : (n : ℕ) → nat_cmp (n + 1) n ≡ Greater
above n = elim (nat_cmp (n + 1) n) as (λ (r : Ordering). MatchOrdering r (n + 1 < n) (n + 1 ≡ n) (n < n + 1) → r ≡ Greater) [
  | Less ↦ λ m. absurd (omega (arith, m))
  | Equal ↦ λ m. absurd (omega (arith, m))
  | Greater ↦ λ m. refl
] (ranked (n + 1) n (nat_cmp (n + 1) n) refl)

from_zero : (n : ℕ) → is_le (nat_cmp 0 n) ≡ true
from_zero n = elim (nat_cmp 0 n) as (λ (r : Ordering). MatchOrdering r (0 < n) (0 ≡ n) (n < 0) → is_le r ≡ true) [
  | Less ↦ λ m. refl
  | Equal ↦ λ m. refl
  | Greater ↦ λ m. absurd (omega (arith, m))
] (ranked 0 n (nat_cmp 0 n) refl)

of_block : (a b k : ℕ) → is_of_block (record { 0 = a }) b (slot_in (record { 0 = a }) b k) ≡ true
of_block a b k =
    subst (λ (r : Ordering). (is_le (ordering_then r (ordering_then (nat_cmp b b) (nat_cmp 0 k))) && not (is_le (ordering_then r (ordering_then (nat_cmp (b + 1) b) (nat_cmp 0 k))))) ≡ true) (sym (tie a))
    (subst (λ (r : Ordering). (is_le (ordering_then r (nat_cmp 0 k)) && not (is_le (ordering_then (nat_cmp (b + 1) b) (nat_cmp 0 k)))) ≡ true) (sym (tie b))
    (subst (λ (r : Ordering). (is_le (nat_cmp 0 k) && not (is_le (ordering_then r (nat_cmp 0 k)))) ≡ true) (sym (above b))
    (ap (λ (t : Bool). t && true) (from_zero k))))

contains_kept : {X : Type 0} (p : X → Bool) (xs : List X) (x : X) → Contains xs x → p x ≡ true → Contains (filter p xs) x
contains_kept {X} p [] x at e = absurd (omega (arith, at.1))
contains_kept {X} p (y ∷ ys) x at e =
    elim (Contains-append_cases (y ∷ []) ys x at) [
      | inl first ↦ elim (Contains-push_cases [] y x first) [
        | inl none ↦ absurd (omega (arith, none.1))
        | inr is ↦ subst (λ (b : Bool). Contains (cond b (y ∷ filter p ys) (filter p ys)) x) (sym (ap p is ∙ e))
            (subst (λ (z : X). Contains (y ∷ filter p ys) z) is (Contains-append_left (y ∷ []) (filter p ys) y (Contains-push [] y)))
      ]
      | inr rest ↦ elim (p y) as (λ (b : Bool). Contains (cond b (y ∷ filter p ys) (filter p ys)) x) [
        | true ↦ Contains-append_right (y ∷ []) (filter p ys) x (contains_kept p ys x rest e)
        | false ↦ contains_kept p ys x rest e
      ]
    ]

-- the slot of a byte is among those of its block
pub in_range : (keys found : List Slot) (place : BytePlace) (k : ℕ) → found ≡ slots_of_block place.area (place.offset / 64) keys → Contains keys (slot_of place k) → Contains found (slot_of place k)
in_range keys found place k is at =
    subst (λ (xs : List Slot). Contains xs (slot_of place k)) (sym is)
    (contains_kept (is_of_block place.area (place.offset / 64)) keys (slot_of place k) at (of_block place.area.0 (place.offset / 64) k))

-- the blocks below that one have their slots
pub record SlotsBelow (span : Span) (rule first : ℕ) (old now : List Slot) (block : ℕ) : Type 0 where
  pub there : (b : ℕ) → first ≤ b → b < block → Contains now (record { area = span.area; block = b; rule = rule })
  pub kept : (slot : Slot) → Contains old slot → Contains now slot

pub SlotsBelow-more : (span : Span) (rule first : ℕ) (old now next : List Slot) (block : ℕ) → SlotsBelow span rule first old now block → Contains next (record { area = span.area; block = block; rule = rule }) → ((slot : Slot) → Contains now slot → Contains next slot) → SlotsBelow span rule first old next (block + 1)
SlotsBelow-more span rule first old now next block a at kept = record {
  there = λ b low high. elim (cases_lt b block) [
    | inl before ↦ kept _ (a.there b low before)
    | inr after ↦
        let here : block ≡ b = omega arith in
        let slot : ℕ → Slot = λ n. record { area = span.area; block = n; rule = rule } in
        subst (λ (n : ℕ). Contains next (slot n)) here at
  ];
  kept = λ slot h. kept slot (a.kept slot h);
}

pub SlotsBelow-all : (span : Span) (rule : ℕ) (old now : List Slot) (block : ℕ) → (span.offset + (span.length - 1)) / 64 < block → SlotsBelow span rule (span.offset / 64) old now block → Indexes (IsInSpan span) rule old now
SlotsBelow-all span rule old now block past a = record {
  there = λ place at.
      let slot : BytePlace → Slot = λ p. slot_of p rule in
      subst (λ (p : BytePlace). Contains now (slot p)) (sym at.2) (a.there ((span.offset + at.0) / 64) (omega (arith, at.1)) (omega (arith, at.1, past)));
  kept = a.kept;
}

pub Indexes-trans : (P Q : BytePlace → Type 0) (rule : ℕ) (old mid new : List Slot) → Indexes P rule old mid → Indexes Q rule mid new → Indexes (λ place. P place ⊎ Q place) rule old new
Indexes-trans P Q rule old mid new p q = record {
  there = λ place h. elim h [ inl a ↦ q.kept _ (p.there place a) | inr b ↦ q.there place b ];
  kept = λ slot h. q.kept slot (p.kept slot h);
}

pub Indexes-three : (P Q R : BytePlace → Type 0) (rule : ℕ) (old mid late new : List Slot) → Indexes P rule old mid → Indexes Q rule mid late → Indexes R rule late new → Indexes (λ place. P place ⊎ (Q place ⊎ R place)) rule old new
Indexes-three P Q R rule old mid late new p q r = Indexes-trans P (λ place. Q place ⊎ R place) rule old mid new p (Indexes-trans Q R rule mid late new q r)
