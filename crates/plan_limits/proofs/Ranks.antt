-- The order of ranks, and how the first of a list stays or is replaced when one more stands in front.
use Rattle.std.proofs.Common.{◌≡◌, ℕ, suc, List, [], ◌∷◌, ◌++◌, map, true, false, true≢false, refl, sym, ap, ap₂, subst, ◌∙◌, ◌<◌, arith}
use Rattle.std.specs.List.{AllByRecursion}
use Rattle.std.specs.Cmp.{IsTotalOrder, upto, nat_cmp_is, ranks}
use Rattle.std.specs.Cmp.Lexicographic.{slice_cmp, on_texts}
use Rattle.std.specs.declared.cmp.Ordering.{Ordering}
use Rattle.std.specs.declared.cmp.Ordering.TheVariants.{Less, Equal, Greater}
use Rattle.std.specs.Ordering.{nat_cmp, ordering_then, ordering_reverse, is_gt, is_ge, MatchOrdering}
use Rattle.plan_limits.specs.declared.limit.Limit.{Limit}
use Rattle.plan_limits.specs.declared.limit.Kept.{Kept}
use Rattle.plan_limits.specs.declared.limit.Kept.TheVariants as kept
use Rattle.plan_limits.specs.First.{kept_rank, limit_rank, limit_cmp, IsFirst}

pub tied_last : (r : Ordering) → ordering_then r Equal ≡ r
tied_last Less = refl
tied_last Equal = refl
tied_last Greater = refl

then_then : (r s t : Ordering) → ordering_then r (ordering_then s t) ≡ ordering_then (ordering_then r s) t
then_then Less s t = refl
then_then Equal s t = refl
then_then Greater s t = refl

lifted : (x y : ℕ) (r : Ordering) → MatchOrdering r (x < y) (x ≡ y) (y < x) → MatchOrdering r (suc x < suc y) (suc x ≡ suc y) (suc y < suc x)
lifted x y Less h = omega (arith, h)
lifted x y Equal h = ap suc h
lifted x y Greater h = omega (arith, h)

suc_cmp : (x y : ℕ) → nat_cmp (suc x) (suc y) ≡ nat_cmp x y
suc_cmp x y = sym (nat_cmp_is (suc x) (suc y) (nat_cmp x y) (lifted x y (nat_cmp x y) (ranks x y)))

zero_cmp : (y : ℕ) → nat_cmp 0 (suc y) ≡ Less
zero_cmp y = sym (nat_cmp_is 0 (suc y) Less (omega arith))

cmp_zero : (x : ℕ) → nat_cmp (suc x) 0 ≡ Greater
cmp_zero x = sym (nat_cmp_is (suc x) 0 Greater (omega arith))

-- two words, the first of each ended by a 0, go by the first words and then by the second
pub ended_cmp : (a b c d : List ℕ) → slice_cmp nat_cmp (map suc a ++ 0 ∷ c) (map suc b ++ 0 ∷ d) ≡ ordering_then (slice_cmp nat_cmp a b) (slice_cmp nat_cmp c d)
ended_cmp [] [] c d = refl
ended_cmp [] (y ∷ b) c d = ap (λ (r : Ordering). ordering_then r (slice_cmp nat_cmp c (map suc b ++ 0 ∷ d))) (zero_cmp y)
ended_cmp (x ∷ a) [] c d = ap (λ (r : Ordering). ordering_then r (slice_cmp nat_cmp (map suc a ++ 0 ∷ c) d)) (cmp_zero x)
ended_cmp (x ∷ a) (y ∷ b) c d = ap₂ ordering_then (suc_cmp x y) (ended_cmp a b c d) ∙ then_then (nat_cmp x y) (slice_cmp nat_cmp a b) (slice_cmp nat_cmp c d)

pub none_first : (shown : Kept) → slice_cmp nat_cmp [] (kept_rank shown) ≡ Less
none_first (kept.Place place) = refl
none_first (kept.Number number) = refl
none_first (kept.Word word) = refl
none_first (kept.Words first second) = refl

pub none_last : (shown : Kept) → slice_cmp nat_cmp (kept_rank shown) [] ≡ Greater
none_last (kept.Place place) = refl
none_last (kept.Number number) = refl
none_last (kept.Word word) = refl
none_last (kept.Words first second) = refl

total : IsTotalOrder limit_cmp
total = on_texts limit_rank

-- what comes before a limit that others don't come before
abbrev NotAfter : Limit → Limit → Type 0
NotAfter limit other = is_gt (limit_cmp limit other) ≡ false

turned : (r s : Ordering) → s ≡ ordering_reverse r → (r ≡ Less → ⊥) → is_gt s ≡ false
turned Less s e never = absurd (never refl)
turned Equal s e never = ap is_gt e
turned Greater s e never = ap is_gt e

less_up : (r : Ordering) → r ≡ Less → is_gt r ≡ false
less_up r e = ap is_gt e

after_all : (limit first : Limit) (others : List Limit) → NotAfter limit first → AllByRecursion (λ other. limit_cmp first other ≡ Less) others → AllByRecursion (NotAfter limit) others
after_all limit first [] e all = tt
after_all limit first (other ∷ others) e all = (upto total limit first other e (less_up _ all.0), after_all limit first others e all.1)

after_rest : (limit first : Limit) (others : List Limit) → NotAfter limit first → AllByRecursion (NotAfter first) others → AllByRecursion (NotAfter limit) others
after_rest limit first [] e all = tt
after_rest limit first (other ∷ others) e all = (upto total limit first other e all.0, after_rest limit first others e all.1)

both_parts : (P : Limit → Type 0) (front back : List Limit) → AllByRecursion P front → AllByRecursion P back → AllByRecursion P (front ++ back)
both_parts P [] back f b = b
both_parts P (x ∷ front) back f b = (f.0, both_parts P front back f.1 b)

pub alone : (limit : Limit) → IsFirst (limit ∷ []) limit
alone limit = record { earlier = []; later = []; among = refl; before_earlier = tt; after_none = tt }

never_less : (r : Ordering) → is_ge r ≡ true → r ≡ Less → ⊥
never_less r e less = true≢false (sym e ∙ ap is_ge less)

always_less : (r : Ordering) → is_ge r ≡ false → r ≡ Less
always_less Less e = refl
always_less Equal e = absurd (true≢false e)
always_less Greater e = absurd (true≢false e)

-- one more in front of the first: it goes on being the first where it comes before that one
pub stays : (limits : List Limit) (limit first : Limit) → IsFirst limits first → limit_cmp first limit ≡ Less → IsFirst (limit ∷ limits) first
stays limits limit first f e = record {
  earlier = limit ∷ f.earlier;
  later = f.later;
  among = ap (λ (tail : List Limit). limit ∷ tail) f.among;
  before_earlier = (e, f.before_earlier);
  after_none = f.after_none;
}

-- else that one is the first
pub replaced : (limits : List Limit) (limit first : Limit) → IsFirst limits first → (limit_cmp first limit ≡ Less → ⊥) → IsFirst (limit ∷ limits) limit
replaced limits limit first f never =
    let e : NotAfter limit first = turned (limit_cmp first limit) (limit_cmp limit first) (total.antisymm limit first) never in
    let back : AllByRecursion (NotAfter limit) (first ∷ f.later) = (e, after_rest limit first f.later e f.after_none) in
    record {
      earlier = [];
      later = limits;
      among = refl;
      before_earlier = tt;
      after_none = subst (AllByRecursion (NotAfter limit)) (sym f.among) (both_parts (NotAfter limit) f.earlier (first ∷ f.later) (after_all limit first f.earlier e f.before_earlier) back);
    }

-- the limits that were taken off the end so far, and their first
pub record TakenOff (limits rest : List Limit) (first : Limit) : Type 0 where
  pub taken : List Limit
  pub parts : limits ≡ rest ++ taken
  pub is_first : IsFirst taken first

shifted : (front taken : List Limit) (limit : Limit) → (front ++ limit ∷ []) ++ taken ≡ front ++ limit ∷ taken
shifted [] taken limit = refl
shifted (x ∷ front) taken limit = ap (λ (tail : List Limit). x ∷ tail) (shifted front taken limit)

moved : (limits rest front taken : List Limit) (limit : Limit) → limits ≡ rest ++ taken → rest ≡ front ++ limit ∷ [] → limits ≡ front ++ limit ∷ taken
moved limits rest front taken limit e f = e ∙ ap (λ (r : List Limit). r ++ taken) f ∙ shifted front taken limit

pub taken_before : (limits rest front : List Limit) (limit first : Limit) → TakenOff limits rest first → rest ≡ front ++ limit ∷ [] → is_ge (limit_cmp first limit) ≡ false → TakenOff limits front first
taken_before limits rest front limit first off e less = record {
  taken = limit ∷ off.taken;
  parts = moved limits rest front off.taken limit off.parts e;
  is_first = stays off.taken limit first off.is_first (always_less _ less);
}

pub taken_as_first : (limits rest front : List Limit) (limit first : Limit) → TakenOff limits rest first → rest ≡ front ++ limit ∷ [] → is_ge (limit_cmp first limit) ≡ true → TakenOff limits front limit
taken_as_first limits rest front limit first off e more = record {
  taken = limit ∷ off.taken;
  parts = moved limits rest front off.taken limit off.parts e;
  is_first = replaced off.taken limit first off.is_first (never_less _ more);
}
