-- What a search finds in a list whose first elements pass a test, and the others fail it.
use Rattle.std.proofs.Common.{◌≡◌, ℕ, zero, suc, ◌-◌, ◌<◌, ◌≤◌, Bool, true, false, ◌&&◌, not, cond, List, [], ◌∷◌, length, take, drop, Some, None, get_or, refl, sym, ap, ◌∙◌, arith}
use Rattle.std.specs.Prelude.{filter}
use Rattle.std.specs.List.Sorted.{IsPartitionPoint}
use Rattle.window_modes.specs.declared.modes.YearMode.{YearMode}
use Rattle.year_index.specs.Years.{first_where}

-- the first `count` pass the test, and the others fail it
abbrev pub IsPoint : {X : Type 0} → (X → Bool) → List X → ℕ → Type 0
IsPoint passes xs count = IsPartitionPoint (λ x. passes x ≡ true) (λ x. passes x ≡ false) xs count

point_rest : {X : Type 0} (passes : X → Bool) (x : X) (xs : List X) (count : ℕ) → IsPoint passes (x ∷ xs) (suc count) → IsPoint passes xs count
point_rest passes x xs count p = (λ k d low l. p.0 (suc k) d (omega arith) (omega (arith, l)), λ k d low l. p.1 (suc k) d (omega (arith, low)) (omega (arith, l)))

none_passes : {X : Type 0} (passes : X → Bool) (x : X) (xs : List X) → IsPoint passes (x ∷ xs) 0 → IsPoint passes xs 0
none_passes passes x xs p = (λ k d low l. absurd (omega (arith, l)), λ k d low l. p.1 (suc k) d (omega arith) (omega (arith, l)))

-- the first that passes is the one at the index, if none before it does
pub first_found : (holds : YearMode → Bool) (xs : List YearMode) (i : ℕ) (d : YearMode) → ((k : ℕ) → k < i → holds (get_or xs k d) ≡ false) → i < length xs → holds (get_or xs i d) ≡ true → first_where holds xs ≡ Some (get_or xs i d)
first_found holds [] i d before l h = absurd (omega (arith, l))
first_found holds (x ∷ xs) zero d before l h = ap (λ (b : Bool). cond b (Some x) (first_where holds xs)) h
first_found holds (x ∷ xs) (suc i) d before l h =
    ap (λ (b : Bool). cond b (Some x) (first_where holds xs)) (before 0 (omega arith))
    ∙ first_found holds xs i d (λ k m. before (suc k) (omega (arith, m))) (omega (arith, l)) h

pub none_found : (holds : YearMode → Bool) (xs : List YearMode) → ((k : ℕ) (d : YearMode) → k < length xs → holds (get_or xs k d) ≡ false) → first_where holds xs ≡ None
none_found holds [] h = refl
none_found holds (x ∷ xs) h =
    ap (λ (b : Bool). cond b (Some x) (first_where holds xs)) (h 0 x (omega arith))
    ∙ none_found holds xs (λ k d l. h (suc k) d (omega (arith, l)))

-- a part of the list is what has begun and not ended
pub part_is : {X : Type 0} (ended begun meets : X → Bool) (xs : List X) (first last : ℕ) → ((x : X) → meets x ≡ (not (ended x) && begun x)) → IsPoint ended xs first → IsPoint begun xs last → last ≤ length xs → first ≤ last
    → take (last - first) (drop first xs) ≡ filter meets xs
part_is ended begun meets [] first last same e b within l =
    let none : first ≡ 0 = omega (arith, within, l) in
    let none_too : last ≡ 0 = omega (arith, within) in
    ap (λ (n : ℕ). take (n - first) (drop first [])) none_too ∙ ap (λ (n : ℕ). take (0 - n) (drop n [])) none
part_is ended begun meets (x ∷ xs) zero zero same e b within l =
    let out : meets x ≡ false = same x ∙ ap (λ (t : Bool). not (ended x) && t) (b.1 0 x (omega arith) (omega arith)) ∙ ap (λ (t : Bool). not t && false) (e.1 0 x (omega arith) (omega arith)) in
    let rest : take (0 - 0) (drop 0 xs) ≡ filter meets xs = part_is ended begun meets xs 0 0 same (none_passes ended x xs e) (none_passes begun x xs b) (omega arith) (omega arith) in
    rest ∙ ap (λ (t : Bool). cond t (x ∷ filter meets xs) (filter meets xs)) (sym out)
part_is {X = X} ended begun meets (x ∷ xs) zero (suc last) same e b within l =
    let here : meets x ≡ true = same x ∙ ap (λ (t : Bool). not (ended x) && t) (b.0 0 x (omega arith) (omega arith)) ∙ ap (λ (t : Bool). not t && true) (e.1 0 x (omega arith) (omega arith)) in
    let rest : take (last - 0) (drop 0 xs) ≡ filter meets xs = part_is ended begun meets xs 0 last same (none_passes ended x xs e) (point_rest begun x xs last b) (omega (arith, within)) (omega arith) in
    let one : suc last - 0 ≡ suc (last - 0) = omega arith in
    ap (λ (n : ℕ). take n (x ∷ xs)) one ∙ ap (λ (l : List X). x ∷ l) rest
    ∙ ap (λ (t : Bool). cond t (x ∷ filter meets xs) (filter meets xs)) (sym here)
part_is ended begun meets (x ∷ xs) (suc first) zero same e b within l = absurd (omega (arith, l))
part_is ended begun meets (x ∷ xs) (suc first) (suc last) same e b within l =
    let out : meets x ≡ false = same x ∙ ap (λ (t : Bool). not t && begun x) (e.0 0 x (omega arith) (omega arith)) in
    let rest : take (last - first) (drop first xs) ≡ filter meets xs = part_is ended begun meets xs first last same (point_rest ended x xs first e) (point_rest begun x xs last b) (omega (arith, within)) (omega (arith, l)) in
    let less : suc last - suc first ≡ last - first = omega arith in
    ap (λ (n : ℕ). take n (drop first xs)) less ∙ rest ∙ ap (λ (t : Bool). cond t (x ∷ filter meets xs) (filter meets xs)) (sym out)

-- fewer have ended than have begun
pub fewer : {X : Type 0} (ended begun : X → Bool) (xs : List X) (first last : ℕ) → ((x : X) → ended x ≡ true → begun x ≡ true) → IsPoint ended xs first → IsPoint begun xs last → first ≤ length xs → first ≤ last
fewer ended begun xs zero last so e b l = omega arith
fewer ended begun [] (suc first) last so e b l = absurd (omega (arith, l))
fewer ended begun (x ∷ xs) (suc first) zero so e b l =
    let has : begun x ≡ true = so x (e.0 0 x (omega arith) (omega arith)) in
    let has_not : begun x ≡ false = b.1 0 x (omega arith) (omega arith) in
    absurd (let both : true ≡ false = sym has ∙ has_not in cc)
fewer ended begun (x ∷ xs) (suc first) (suc last) so e b l =
    let rest : first ≤ last = fewer ended begun xs first last so (point_rest ended x xs first e) (point_rest begun x xs last b) (omega (arith, l)) in omega (arith, rest)
