-- The limits and the lengths of areas that stand in two parts.
use Rattle.std.proofs.Common.{◌≡◌, ℕ, ◌+◌, List, [], ◌∷◌, ◌++◌, refl, sym, ap, ◌∙◌, arith}
use Rattle.plan_limits.specs.declared.limit.Limit.{Limit}
use Rattle.area_limits.specs.Extents.{Extent}
use Rattle.area_limits.specs.Full.{lengths, extent_limits, full_limits}

pub joined : (xs ys zs : List Limit) → xs ++ (ys ++ zs) ≡ (xs ++ ys) ++ zs
joined [] ys zs = refl
joined (x ∷ xs) ys zs = ap (λ (tail : List Limit). x ∷ tail) (joined xs ys zs)

pub added : (a b c : ℕ) → a + (b + c) ≡ (a + b) + c
added a b c = omega arith

none_added : (a : ℕ) → a ≡ a + 0
none_added a = omega arith

none_before : (a : ℕ) → a ≡ 0 + a
none_before a = omega arith

pub lengths_apart : (xs ys : List Extent) → lengths (xs ++ ys) ≡ lengths xs + lengths ys
lengths_apart [] ys = none_before (lengths ys)
lengths_apart (x ∷ xs) ys = ap (λ (n : ℕ). x.length + n) (lengths_apart xs ys) ∙ added x.length (lengths xs) (lengths ys)

pub full_apart : (before : ℕ) (xs ys : List Extent) → full_limits before (xs ++ ys) ≡ full_limits before xs ++ full_limits (before + lengths xs) ys
full_apart before [] ys = ap (λ (n : ℕ). full_limits n ys) (none_added before)
full_apart before (x ∷ xs) ys =
    ap (λ (tail : List Limit). extent_limits before x ++ tail)
    (full_apart (before + x.length) xs ys ∙ ap (λ (n : ℕ). full_limits (before + x.length) xs ++ full_limits n ys) (sym (added before x.length (lengths xs))))
    ∙ joined (extent_limits before x) (full_limits (before + x.length) xs) (full_limits (before + (x.length + lengths xs)) ys)

-- a part and then another
pub lengths_both : (before own sum : ℕ) (xs ys : List Extent) → own ≡ before + lengths xs → sum ≡ own + lengths ys → sum ≡ before + lengths (xs ++ ys)
lengths_both before own sum xs ys first then = omega (arith, first, then, lengths_apart xs ys)

pub full_both : (old mid new : List Limit) (before own : ℕ) (xs ys : List Extent) → mid ≡ old ++ full_limits before xs → own ≡ before + lengths xs → new ≡ mid ++ full_limits own ys → new ≡ old ++ full_limits before (xs ++ ys)
full_both old mid new before own xs ys first sum then =
    then
    ∙ ap (λ (limits : List Limit). limits ++ full_limits own ys) first
    ∙ ap (λ (n : ℕ). (old ++ full_limits before xs) ++ full_limits n ys) sum
    ∙ sym (joined old (full_limits before xs) (full_limits (before + lengths xs) ys))
    ∙ ap (λ (tail : List Limit). old ++ tail) (sym (full_apart before xs ys))
