-- A table has one fault that is named, or none.
use Rattle.std.proofs.Common.{◌≡◌, ℕ, Bool, false, List, [], Option, Some, None, is_some, unwrap_or, Ordering, Less, Equal, Greater, nat_cmp, refl, sym, ap, ◌∙◌, subst, option_map}
use Rattle.std.proofs.lemmas.Bool.{true≢false}
use Rattle.std.proofs.lemmas.Cmp.{nat_list_cmp_total}
use Rattle.std.specs.Cmp.Lexicographic.{slice_cmp}
use Rattle.std.specs.Ordering.{is_lt, ordering_reverse}
use Rattle.toml.specs.Data.{Members}
use Rattle.portfolio.specs.Keys.{word}
use Rattle.portfolio.specs.declared.key.Key.{Key}
use Rattle.portfolio.specs.declared.fault.ManifestKind.{ManifestKind}
use Rattle.portfolio.specs.declared.fault.ManifestKind.TheVariants.{MissingKey, BadValue, BadName, UnknownKey, NameTwice}
use Rattle.portfolio.specs.declared.fault.ManifestFault.{ManifestFault}
use Rattle.portfolio.specs.declared.fault.ManifestFault.TheVariants.{At, Memory}
use Rattle.portfolio.specs.Faults.{IsLeast, NonePasses, Stands, IsFree, HasNoFault, HasFault, IsOnlyFault}
use Rattle.portfolio.proofs.Order.{same_text}

-- a fault of a kind stands, or none does
none_first : (o : Option Key) (k : List ℕ) → option_map word o ≡ Some k → o ≡ None → ⊥
none_first o k s n = true≢false (ap is_some (sym s ∙ ap (option_map word) n))

none_least : (test : List ℕ → Bool) (k : List ℕ) → IsLeast test k → NonePasses test → ⊥
none_least test k s n = true≢false (sym s.0 ∙ n k)

not_both : (kind : ManifestKind) (t : Members) (k : List ℕ) → Stands kind t k → IsFree kind t → ⊥
not_both MissingKey t k s n = none_first _ k s n
not_both BadValue t k s n = none_first _ k s n
not_both BadName t k s n = none_first _ k s n
not_both UnknownKey t k s n = none_least _ k s n
not_both NameTwice t k s n = none_least _ k s n

-- a kind names one key
one_first : (o : Option Key) (k l : List ℕ) → option_map word o ≡ Some k → option_map word o ≡ Some l → l ≡ k
one_first o k l a b = ap (λ (x : Option (List ℕ)). unwrap_or x []) (sym b ∙ a)

equal : (o : Ordering) (k l : List ℕ) → slice_cmp nat_cmp l k ≡ o → is_lt o ≡ false → is_lt (slice_cmp nat_cmp k l) ≡ false → l ≡ k
equal Less k l e f g = absurd (true≢false f)
equal Equal k l e f g = same_text l k e
equal Greater k l e f g = absurd (true≢false (sym (ap is_lt (nat_list_cmp_total.antisymm k l ∙ ap ordering_reverse e)) ∙ g))

one_least : (test : List ℕ → Bool) (k l : List ℕ) → IsLeast test k → IsLeast test l → l ≡ k
one_least test k l a b = equal (slice_cmp nat_cmp l k) k l refl (a.1 l b.0) (b.1 k a.0)

one_key : (kind : ManifestKind) (t : Members) (k l : List ℕ) → Stands kind t k → Stands kind t l → l ≡ k
one_key MissingKey t k l a b = one_first _ k l a b
one_key BadValue t k l a b = one_first _ k l a b
one_key BadName t k l a b = one_first _ k l a b
one_key UnknownKey t k l a b = one_least _ k l a b
one_key NameTwice t k l a b = one_least _ k l a b

not_free : (kind : ManifestKind) (t : Members) (k : List ℕ) → HasFault t (At kind k) → HasNoFault t → ⊥
not_free MissingKey t k f n = not_both MissingKey t k f.1 n.0.0
not_free BadValue t k f n = not_both BadValue t k f.1 n.0.1.0
not_free BadName t k f n = not_both BadName t k f.1 n.0.1.1.0
not_free UnknownKey t k f n = not_both UnknownKey t k f.1 n.0.1.1.1
not_free NameTwice t k f n = not_both NameTwice t k f.1 n.1

-- of two kinds the earlier one would stand and not stand
one_kind : (a b : ManifestKind) (t : Members) (k l : List ℕ) → HasFault t (At a k) → HasFault t (At b l) → b ≡ a
one_kind MissingKey MissingKey t k l f g = refl
one_kind MissingKey BadValue t k l f g = absurd (not_both MissingKey t k f.1 g.0)
one_kind MissingKey BadName t k l f g = absurd (not_both MissingKey t k f.1 g.0.0)
one_kind MissingKey UnknownKey t k l f g = absurd (not_both MissingKey t k f.1 g.0.0)
one_kind MissingKey NameTwice t k l f g = absurd (not_both MissingKey t k f.1 g.0.0)
one_kind BadValue MissingKey t k l f g = absurd (not_both MissingKey t l g.1 f.0)
one_kind BadValue BadValue t k l f g = refl
one_kind BadValue BadName t k l f g = absurd (not_both BadValue t k f.1 g.0.1)
one_kind BadValue UnknownKey t k l f g = absurd (not_both BadValue t k f.1 g.0.1.0)
one_kind BadValue NameTwice t k l f g = absurd (not_both BadValue t k f.1 g.0.1.0)
one_kind BadName MissingKey t k l f g = absurd (not_both MissingKey t l g.1 f.0.0)
one_kind BadName BadValue t k l f g = absurd (not_both BadValue t l g.1 f.0.1)
one_kind BadName BadName t k l f g = refl
one_kind BadName UnknownKey t k l f g = absurd (not_both BadName t k f.1 g.0.1.1)
one_kind BadName NameTwice t k l f g = absurd (not_both BadName t k f.1 g.0.1.1.0)
one_kind UnknownKey MissingKey t k l f g = absurd (not_both MissingKey t l g.1 f.0.0)
one_kind UnknownKey BadValue t k l f g = absurd (not_both BadValue t l g.1 f.0.1.0)
one_kind UnknownKey BadName t k l f g = absurd (not_both BadName t l g.1 f.0.1.1)
one_kind UnknownKey UnknownKey t k l f g = refl
one_kind UnknownKey NameTwice t k l f g = absurd (not_both UnknownKey t k f.1 g.0.1.1.1)
one_kind NameTwice MissingKey t k l f g = absurd (not_both MissingKey t l g.1 f.0.0)
one_kind NameTwice BadValue t k l f g = absurd (not_both BadValue t l g.1 f.0.1.0)
one_kind NameTwice BadName t k l f g = absurd (not_both BadName t l g.1 f.0.1.1.0)
one_kind NameTwice UnknownKey t k l f g = absurd (not_both UnknownKey t l g.1 f.0.1.1.1)
one_kind NameTwice NameTwice t k l f g = refl

one_fault : (t : Members) (a b : ManifestKind) (k l : List ℕ) → HasFault t (At a k) → HasFault t (At b l) → (b ≡ a) × (l ≡ k)
one_fault t a b k l f g =
    let same = one_kind a b t k l f g in
    (same, one_key a t k l f.1 (subst (λ (c : ManifestKind). Stands c t l) same g.1))

pub only_fault : (t : Members) (fault : ManifestFault) → HasFault t fault → IsOnlyFault t fault
only_fault t (At kind key) f = (not_free kind t key f, λ other named g. one_fault t kind other key named f g)
only_fault t Memory f = f
