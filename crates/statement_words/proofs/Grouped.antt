-- The first text statement of parts.
use Rattle.std.proofs.Common.{◌≡◌, ℕ, zero, suc, ◌+◌, ◌-◌, ◌≤◌, Bool, true, false, cond, List, [], ◌∷◌, map, take, drop, length, get_or, Option, Some, None, refl, ap, sym, ◌∙◌, arith}
use Rattle.std.specs.List.{prefix_len}
use Rattle.std.proofs.lemmas.Bool.{eqb-true, true≢false}
use Rattle.std.proofs.Math.Seq.{take-length}
use Rattle.statement_places.specs.declared.parts.Part.{Part}
use Rattle.statement_places.specs.Parts.{Seen, seen}
use Rattle.statement_words.specs.Groups.{Receives, receives, is_at, are_of_one, is_with, onto, groups}

-- how many pass a test from the front on
abbrev counted : {X : Type 0} → (X → Bool) → List X → ℕ
counted p [] = zero
counted p (x ∷ xs) = cond (p x) (suc (counted p xs)) zero

counted_is : {X : Type 0} (p : X → Bool) (xs : List X) → prefix_len p xs ≡ counted p xs
counted_is p [] = refl
counted_is p (x ∷ xs) =
    let one : 1 + prefix_len p xs ≡ suc (prefix_len p xs) = omega arith in
    ap (λ (n : ℕ). cond (p x) n 0) (one ∙ ap suc (counted_is p xs))

-- the parts behind one that are with it, and the others
abbrev front : Seen → List Seen → List Seen
front x parts = take (counted (is_with x) parts) parts

abbrev behind : Seen → List Seen → List Seen
behind x parts = drop (counted (is_with x) parts) parts

abbrev tied : Option Receives → Option Receives → Bool
tied None b = false
tied (Some a) b = is_at a.at b

tied_is : (a : Option Receives) (y : Seen) → are_of_one a y ≡ tied a (receives y)
tied_is None y = refl
tied_is (Some a) y = refl

-- what is of one text statement with another has the same parts with it
same_tests : (a b : Option Receives) (other : Seen) → tied a b ≡ true → are_of_one a other ≡ are_of_one b other
same_tests None b other h = absurd (true≢false (sym h))
same_tests (Some a) None other h = absurd (true≢false (sym h))
same_tests (Some a) (Some b) other h = ap (λ (at : ℕ). is_at at (receives other)) (sym (eqb-true b.at a.at h))

alike : (x y : Seen) → is_with x y ≡ true → (z : Seen) → is_with x z ≡ is_with y z
alike x y h z = same_tests (receives x) (receives y) z (sym (tied_is (receives x) y) ∙ h)

same_count : (p q : Seen → Bool) → ((z : Seen) → p z ≡ q z) → (zs : List Seen) → counted p zs ≡ counted q zs
same_count p q same [] = refl
same_count p q same (z ∷ zs) =
    ap (λ (b : Bool). cond b (suc (counted p zs)) zero) (same z) ∙ ap (λ (n : ℕ). cond (q z) (suc n) zero) (same_count p q same zs)

first_group : (x : Seen) (parts : List Seen) → groups (x ∷ parts) ≡ (x ∷ front x parts) ∷ groups (behind x parts)
first_group x [] = refl
first_group x (y ∷ parts) =
    ap (onto x) (first_group y parts)
    ∙ elim (is_with x y) as (λ (b : Bool). is_with x y ≡ b → cond b ((x ∷ y ∷ front y parts) ∷ groups (behind y parts)) ((x ∷ []) ∷ (y ∷ front y parts) ∷ groups (behind y parts))
    ≡ (x ∷ take (cond b (suc (counted (is_with x) parts)) zero) (y ∷ parts)) ∷ groups (drop (cond b (suc (counted (is_with x) parts)) zero) (y ∷ parts))) [
      | true ↦ λ h.
          let same : counted (is_with y) parts ≡ counted (is_with x) parts = sym (same_count (is_with x) (is_with y) (alike x y h) parts) in
          ap (λ (n : ℕ). (x ∷ y ∷ take n parts) ∷ groups (drop n parts)) same
      | false ↦ λ h. ap (λ (gs : List (List Seen)). (x ∷ []) ∷ gs) (sym (first_group y parts))
    ] refl

taken : (p : Seen → Bool) (parts : List Part) → map seen (take (counted (λ part. p (seen part)) parts) parts) ≡ take (counted p (map seen parts)) (map seen parts)
taken p [] = refl
taken p (x ∷ parts) =
    elim (p (seen x)) as (λ (b : Bool). map seen (take (cond b (suc (counted (λ part. p (seen part)) parts)) zero) (x ∷ parts)) ≡ take (cond b (suc (counted p (map seen parts))) zero) (seen x ∷ map seen parts)) [
      | true ↦ ap (λ (more : List Seen). seen x ∷ more) (taken p parts)
      | false ↦ refl
    ]

dropped : (p : Seen → Bool) (parts : List Part) → map seen (drop (counted (λ part. p (seen part)) parts) parts) ≡ drop (counted p (map seen parts)) (map seen parts)
dropped p [] = refl
dropped p (x ∷ parts) =
    elim (p (seen x)) as (λ (b : Bool). map seen (drop (cond b (suc (counted (λ part. p (seen part)) parts)) zero) (x ∷ parts)) ≡ drop (cond b (suc (counted p (map seen parts))) zero) (seen x ∷ map seen parts)) [
      | true ↦ dropped p parts
      | false ↦ refl
    ]

next : (first : Part) (more : List Part) (count : ℕ) → count ≡ counted (λ part. is_with (seen first) (seen part)) more
    → groups (map seen (first ∷ more)) ≡ map seen (first ∷ take count more) ∷ groups (map seen (drop count more))
next first more count at =
    first_group (seen first) (map seen more)
    ∙ ap (λ (group : List Seen). (seen first ∷ group) ∷ groups (behind (seen first) (map seen more))) (sym (taken (is_with (seen first)) more))
    ∙ ap (λ (others : List Seen). (seen first ∷ map seen (take (counted (λ part. is_with (seen first) (seen part)) more) more)) ∷ groups others) (sym (dropped (is_with (seen first)) more))
    ∙ ap (λ (n : ℕ). (seen first ∷ map seen (take n more)) ∷ groups (map seen (drop n more))) (sym at)

-- a list that begins with the part, split behind the first text statement
pub grouped : (parts : List Part) (first : Part) (more : List Part) (count n : ℕ) → parts ≡ first ∷ more → n ≡ suc count → count ≡ prefix_len (λ part. is_with (seen first) (seen part)) more
    → groups (map seen parts) ≡ map seen (take n parts) ∷ groups (map seen (drop n parts))
grouped parts first more count n is next_of at =
    ap (λ (l : List Part). groups (map seen l)) is
    ∙ next first more count (at ∙ counted_is (λ part. is_with (seen first) (seen part)) more)
    ∙ ap (λ (m : ℕ). map seen (take m (first ∷ more)) ∷ groups (map seen (drop m (first ∷ more)))) (sym next_of)
    ∙ ap (λ (l : List Part). map seen (take n l) ∷ groups (map seen (drop n l))) (sym is)

pub none_with : (first : Seen) (more : List Part) → receives first ≡ None → 0 ≡ prefix_len (λ part. is_with first (seen part)) more
none_with first [] h = refl
none_with first (x ∷ more) h = ap (λ (r : Option Receives). cond (are_of_one r (seen x)) (1 + prefix_len (λ part. is_with first (seen part)) more) 0) (sym h)

-- what a split behind the first gives
abbrev pub behind_first : List Part → List Part
behind_first parts = take (length parts - 1) (drop 1 parts)

whole : (n : ℕ) (parts : List Part) → n ≡ length parts → take n parts ≡ parts
whole n parts is = ap (λ (m : ℕ). take m parts) is ∙ take-length parts

pub headed : (parts : List Part) (first : Part) → 1 ≤ length parts → first ≡ get_or parts 0 first → parts ≡ first ∷ behind_first parts
headed [] first l h = absurd (omega (arith, l))
headed (x ∷ parts) first l h =
    ap (λ (p : Part). p ∷ parts) (sym h)
    ∙ ap (λ (more : List Part). first ∷ more) (sym (whole (length (x ∷ parts) - 1) parts (omega arith)))
