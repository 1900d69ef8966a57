-- What a name means, step by step.
use Rattle.std.proofs.Common.{◌≡◌, ℕ, zero, suc, ◌+◌, List, refl, sym, ap, ◌∙◌, arith, Option, Some, None}
use Rattle.std.specs.Prelude.{slice_get}
use Rattle.y2k_base.specs.declared.place.AreaId.{AreaId}
use Rattle.data_layout.specs.declared.item.Item.{Item}
use Rattle.data_layout.specs.declared.item.Area.{Area}
use Rattle.data_layout.specs.declared.found.Found.{Found}
use Rattle.data_layout.specs.declared.found.Found.TheVariants as found
use Rattle.data_layout.specs.Find.{with, unless, is_in, ends, holder_of, left_after, group_name}

unless-both : (one y z : Found) → unless (unless one y) z ≡ unless one (with y z)
unless-both one found.Unknown z = refl
unless-both one (found.Item k) found.Unknown = refl
unless-both one (found.Item k) (found.Item n) = refl
unless-both one (found.Item k) (found.Named n) = refl
unless-both one (found.Item k) found.Twice = refl
unless-both one (found.Named k) found.Unknown = refl
unless-both one (found.Named k) (found.Item n) = refl
unless-both one (found.Named k) (found.Named n) = refl
unless-both one (found.Named k) found.Twice = refl
unless-both one found.Twice found.Unknown = refl
unless-both one found.Twice (found.Item n) = refl
unless-both one found.Twice (found.Named n) = refl
unless-both one found.Twice found.Twice = refl

-- one after the other
pub with-with : (x y z : Found) → with (with x y) z ≡ with x (with y z)
with-with found.Unknown y z = refl
with-with (found.Item k) found.Unknown z = refl
with-with (found.Item k) (found.Item n) found.Unknown = refl
with-with (found.Item k) (found.Item n) (found.Item m) = refl
with-with (found.Item k) (found.Item n) (found.Named m) = refl
with-with (found.Item k) (found.Item n) found.Twice = refl
with-with (found.Item k) (found.Named n) found.Unknown = refl
with-with (found.Item k) (found.Named n) (found.Item m) = refl
with-with (found.Item k) (found.Named n) (found.Named m) = refl
with-with (found.Item k) (found.Named n) found.Twice = refl
with-with (found.Item k) found.Twice z = refl
with-with (found.Named k) found.Unknown z = refl
with-with (found.Named k) (found.Item n) found.Unknown = refl
with-with (found.Named k) (found.Item n) (found.Item m) = refl
with-with (found.Named k) (found.Item n) (found.Named m) = refl
with-with (found.Named k) (found.Item n) found.Twice = refl
with-with (found.Named k) (found.Named n) found.Unknown = refl
with-with (found.Named k) (found.Named n) (found.Item m) = refl
with-with (found.Named k) (found.Named n) (found.Named m) = refl
with-with (found.Named k) (found.Named n) found.Twice = refl
with-with (found.Named k) found.Twice z = refl
with-with found.Twice y z = refl

pub with-none : (x : Found) → with x found.Unknown ≡ x
with-none found.Unknown = refl
with-none (found.Item k) = refl
with-none (found.Named k) = refl
with-none found.Twice = refl

pub no-holder : (n : ℕ) (items : List Item) (areas : List Area) (id : AreaId) (qualifiers : List (List ℕ)) → is_in n items areas id None qualifiers ≡ ends areas id qualifiers
no-holder zero items areas id qualifiers = refl
no-holder (suc n) items areas id qualifiers = refl

pub outwards : (n m : ℕ) (items : List Item) (areas : List Area) (id : AreaId) (outer onward : Option ℕ) (left further : List (List ℕ)) (k : ℕ) → n ≡ m + 1 → outer ≡ Some k
    → further ≡ left_after (group_name (slice_get items k)) left → onward ≡ holder_of (slice_get items k)
    → is_in m items areas id onward further ≡ is_in n items areas id outer left
outwards n m items areas id outer onward left further k is here lefts outs =
    let step : n ≡ suc m = omega (arith, is) in
    ap (λ (o : Option ℕ). is_in m items areas id o further) outs
    ∙ ap (λ (l : List (List ℕ)). is_in m items areas id (holder_of (slice_get items k)) l) lefts
    ∙ sym (ap (λ (o : Option ℕ). is_in n items areas id o left) here ∙ ap (λ (x : ℕ). is_in x items areas id (Some k) left) step)

pub at-none : (n : ℕ) (items : List Item) (areas : List Area) (id : AreaId) (outer : Option ℕ) (left : List (List ℕ)) → outer ≡ None → ends areas id left ≡ is_in n items areas id outer left
at-none n items areas id outer left here = sym (ap (λ (o : Option ℕ). is_in n items areas id o left) here ∙ no-holder n items areas id left)

pub at-last : (n : ℕ) (items : List Item) (areas : List Area) (id : AreaId) (outer : Option ℕ) (left : List (List ℕ)) → n ≡ 0 → ends areas id left ≡ is_in n items areas id outer left
at-last n items areas id outer left none = sym (ap (λ (x : ℕ). is_in x items areas id outer left) none)
