-- What a receiver stores of digits depends on the number that they write alone.
use Rattle.std.proofs.Common.{◌≡◌, ◌≢◌, ℕ, zero, suc, ◌+◌, ◌-◌, ◌*◌, ◌/◌, ◌%◌, ◌^◌, ◌<◌, ◌≤◌, ◌==◌, Bool, true, false, cond, ◌&&◌, not, List, [], ◌∷◌, ◌++◌, length, take, drop, replicate, ℤ, refl, sym, ap, subst, ◌∙◌, inl, inr, arith, leb}
use Rattle.std.specs.Prelude.{unsigned_abs}
use Rattle.std.proofs.Math.Nat.{mod-eq_of_lt, div-eq_of_lt, zero-div, mul-le-mul_right, pow-le-pow_right}
use Rattle.std.proofs.lemmas.Nat.{pow-add, div-add-mod', div-mul-add, mod_below}
use Rattle.std.proofs.lemmas.Bool.{and_parts, and_from, cases_lt, le-ltb, le-leb, lt-leb, eq-eqb, ne_eqb, cases_eq}
use Rattle.std.proofs.lemmas.List.{append-nil, length-append, length-drop, take-append-drop, take_all, length-replicate}
use Rattle.byte_lists.specs.Digit.{is_digit, all_digits, all_zero, number, decimal, aligned, codes}
use Rattle.program_meaning.specs.Number.{Decimal, NumForm, with_sign, is_minus, value_of, value_minus, at_point, kept_minus}
use Rattle.program_meaning.specs.Kind.{Kind, form_of}
use Rattle.program_meaning.specs.Moves.{stored, stored_digits, stored_number, shown_number, literal_number}
use Rattle.program_meaning.specs.Arithmetic.{Scaled, exact, result_bytes, stored_value, scaled}
use Rattle.number_bytes.specs.Stored.{moved_value, shown}
use Rattle.number_bytes.proofs.DigitLaws.{ten_pos, number-decimal, number_below, decimal-above, decimal-number, all_digits-decimal}
use Rattle.number_bytes.proofs.BinaryLaws.{with_sign-unsigned_abs}
use Rattle.number_bytes.proofs.Agreement.{unsigned_abs-with_sign}

-- zeros in front
pub decimal_with_zeros : (k n v : ℕ) → v < 10 ^ n → decimal (k + n) v ≡ replicate k 0 ++ decimal n v
decimal_with_zeros zero n v below = let e : 0 + n ≡ n = omega arith in ap (λ m. decimal m v) e
decimal_with_zeros (suc k) n v below =
    let e : suc k + n ≡ suc (k + n) = omega arith in
    let small : v < 10 ^ (k + n) = omega (arith, below, pow-le-pow_right {n = 10} (omega arith) {i = n} {j = k + n} (omega arith)) in
    let none : v / 10 ^ (k + n) ≡ 0 = div-eq_of_lt small in
    let head : v / 10 ^ (k + n) % 10 ≡ 0 = ap (λ q. q % 10) none in
    ap (λ m. decimal m v) e ∙ (rw (head, decimal_with_zeros k n v below) refl)

pub number-append : (xs ys : List ℕ) → number (xs ++ ys) ≡ number xs * 10 ^ length ys + number ys
number-append [] ys = omega arith
number-append (x ∷ xs) ys =
    let size : length (xs ++ ys) ≡ length xs + length ys = length-append xs ys in
    let power : 10 ^ (length xs + length ys) ≡ 10 ^ length xs * 10 ^ length ys = pow-add 10 (length xs) (length ys) in
    ap (λ n. x * 10 ^ n + number (xs ++ ys)) size ∙ ap (λ p. x * p + number (xs ++ ys)) power ∙ ap (λ v. x * (10 ^ length xs * 10 ^ length ys) + v) (number-append xs ys)
    ∙ regrouped x (10 ^ length xs) (10 ^ length ys) (number xs) (number ys)
  where
    regrouped : (x p q a b : ℕ) → x * (p * q) + (a * q + b) ≡ (x * p + a) * q + b
    regrouped x p q a b = grind arith

pub all_digits-append : (xs ys : List ℕ) → all_digits 0 xs ≡ true → all_digits 0 ys ≡ true → all_digits 0 (xs ++ ys) ≡ true
all_digits-append [] ys hx hy = hy
all_digits-append (x ∷ xs) ys hx hy = let parts = and_parts (is_digit 0 x) (all_digits 0 xs) hx in and_from (is_digit 0 x) (all_digits 0 (xs ++ ys)) parts.0 (all_digits-append xs ys parts.1 hy)

pub all_digits-take : (n : ℕ) (xs : List ℕ) → all_digits 0 xs ≡ true → all_digits 0 (take n xs) ≡ true
all_digits-take zero xs h = refl
all_digits-take (suc n) [] h = refl
all_digits-take (suc n) (x ∷ xs) h = let parts = and_parts (is_digit 0 x) (all_digits 0 xs) h in and_from (is_digit 0 x) (all_digits 0 (take n xs)) parts.0 (all_digits-take n xs parts.1)

pub all_digits-drop : (n : ℕ) (xs : List ℕ) → all_digits 0 xs ≡ true → all_digits 0 (drop n xs) ≡ true
all_digits-drop zero xs h = h
all_digits-drop (suc n) [] h = refl
all_digits-drop (suc n) (x ∷ xs) h = all_digits-drop n xs (and_parts (is_digit 0 x) (all_digits 0 xs) h).1

pub all_digits-zeros : (n : ℕ) → all_digits 0 (replicate n 0) ≡ true
all_digits-zeros zero = refl
all_digits-zeros (suc n) = all_digits-zeros n

number-zeros : (n : ℕ) → number (replicate n 0) ≡ 0
number-zeros zero = refl
number-zeros (suc n) = omega (arith, number-zeros n)

-- the last digits of digits are those of their number
pub aligned-is : (n : ℕ) (ds : List ℕ) → all_digits 0 ds ≡ true → aligned n ds ≡ decimal n (number ds)
aligned-is n ds h =
    elim (cases_lt (length ds) n) [
      | inl shorter ↦ let none : length ds - n ≡ 0 = omega arith in
          let whole : n - length ds + length ds ≡ n = omega arith in
          ap (λ k. replicate (n - length ds) 0 ++ drop k ds) none
          ∙ ap (λ (xs : List ℕ). replicate (n - length ds) 0 ++ xs) (sym (decimal-number ds h))
          ∙ sym (decimal_with_zeros (n - length ds) (length ds) (number ds) (number_below ds h))
          ∙ ap (λ k. decimal k (number ds)) whole
      | inr longer ↦ let none : n - length ds ≡ 0 = omega arith in
          let k : ℕ = length ds - n in
          let rest : List ℕ = drop k ds in
          let size : length rest ≡ n = omega (arith, length-drop k ds) in
          let split : number ds ≡ number (take k ds) * 10 ^ n + number rest = ap number (sym (take-append-drop k ds)) ∙ number-append (take k ds) rest ∙ ap (λ i. number (take k ds) * 10 ^ i + number rest) size in
          ap (λ i. replicate i 0 ++ rest) none
          ∙ sym (decimal-number rest (all_digits-drop k ds h))
          ∙ ap (λ i. decimal i (number rest)) size
          ∙ sym (ap (decimal n) split ∙ decimal-above n n (number (take k ds)) (number rest) (omega arith))
    ]

-- only the low part of a number counts
pub decimal-low : (n v : ℕ) → decimal n v ≡ decimal n (v % 10 ^ n)
decimal-low n v = ap (decimal n) (sym (div-add-mod' v (10 ^ n))) ∙ decimal-above n n (v / 10 ^ n) (v % 10 ^ n) (omega arith)

all_zero-is : (ds : List ℕ) → all_zero ds ≡ (number ds == 0)
all_zero-is [] = refl
all_zero-is (d ∷ ds) =
    elim (cases_eq d 0) [
      | inl none ↦ let same : d * 10 ^ length ds + number ds ≡ number ds = ap (λ (e : ℕ). e * 10 ^ length ds + number ds) none ∙ (omega arith) in
          ap (λ b. b && all_zero ds) (eq-eqb d 0 none) ∙ all_zero-is ds ∙ ap (λ v. v == 0) (sym same)
      | inr some ↦ let more : d * 10 ^ length ds + number ds ≢ 0 = positive d (10 ^ length ds) (number ds) some (ten_pos (length ds)) in
          ap (λ b. b && all_zero ds) (ne_eqb d 0 some) ∙ sym (ne_eqb (d * 10 ^ length ds + number ds) 0 more)
    ]
  where
    positive : (d p v : ℕ) → d ≢ 0 → 0 < p → d * p + v ≢ 0
    positive d p v some there = let one : 1 ≤ d = omega arith in let most : 1 * p ≤ d * p = mul-le-mul_right p one in omega arith

-- a sign that counts only where the magnitude isn't 0
pub is_minus-with_sign : (minus : Bool) (n : ℕ) → is_minus (with_sign minus n) ≡ (minus && not (n == 0))
is_minus-with_sign true zero = refl
is_minus-with_sign true (suc n) = sym (ap not (ne_eqb (suc n) 0 (omega arith)))
is_minus-with_sign false n = le-ltb n 0 (omega arith)

-- the sign of zero is lost
with_sign_again : (minus : Bool) (n m : ℕ) → (n ≡ 0 → m ≡ 0) → with_sign (is_minus (with_sign minus n)) m ≡ with_sign minus m
with_sign_again true zero m h = let none : m ≡ 0 = h refl in rw none refl
with_sign_again true (suc n) m h = refl
with_sign_again false n m h = ap (λ b. with_sign b m) (is_minus-with_sign false n)

kept_minus-is : (signed minus : Bool) (ds : List ℕ) → kept_minus signed minus ds ≡ (signed && (minus && not (number ds == 0)))
kept_minus-is signed minus ds = ap (λ b. signed && (minus && not b)) (all_zero-is ds)

-- a kind's bytes of a sign and a magnitude
unfoldable pub stored_magnitude : Kind → Bool → ℕ → List ℕ
stored_magnitude k minus m = stored k ((form_of k).signed && (minus && not (m % 10 ^ (form_of k).digits == 0))) (decimal (form_of k).digits m)

stored_digits-is : (k : Kind) (minus : Bool) (ds : List ℕ) → all_digits 0 ds ≡ true → stored_digits k minus ds ≡ stored_magnitude k minus (number ds)
unfolding stored_magnitude
stored_digits-is k minus ds h =
    let n : ℕ = (form_of k).digits in
    let kept : aligned n ds ≡ decimal n (number ds) = aligned-is n ds h in
    ap (λ (xs : List ℕ). stored k (kept_minus (form_of k).signed minus xs) xs) kept
    ∙ ap (λ b. stored k b (decimal n (number ds))) (kept_minus-is (form_of k).signed minus (decimal n (number ds)) ∙ ap (λ v. (form_of k).signed && (minus && not (v == 0))) (number-decimal n (number ds)))

-- the sign counts with the magnitude alone
same_sign : (k : Kind) (a b : Bool) (m : ℕ) → (a && not (m == 0)) ≡ (b && not (m == 0)) → stored_magnitude k a m ≡ stored_magnitude k b m
unfolding stored_magnitude
same_sign k a b m h =
    let n : ℕ = (form_of k).digits in
    elim (cases_eq m 0) [
      | inl none ↦ let low : m % 10 ^ n ≡ 0 = ap (λ (v : ℕ). v % 10 ^ n) none ∙ mod-eq_of_lt (ten_pos n) in
          let gone : (c : Bool) → ((form_of k).signed && (c && not (m % 10 ^ n == 0))) ≡ false = λ c. ap (λ t. (form_of k).signed && (c && not t)) (eq-eqb (m % 10 ^ n) 0 low) ∙ nothing (form_of k).signed c in
          ap (λ s. stored k s (decimal n m)) (gone a ∙ sym (gone b))
      | inr some ↦ let same : a ≡ b = sym (whole a) ∙ (ap (λ t. a && not t) (sym (ne_eqb m 0 some)) ∙ h ∙ ap (λ t. b && not t) (ne_eqb m 0 some)) ∙ whole b in
          ap (λ c. stored k ((form_of k).signed && (c && not (m % 10 ^ n == 0))) (decimal n m)) same
    ]
  where
    nothing : (s c : Bool) → (s && (c && false)) ≡ false
    nothing true true = refl
    nothing true false = refl
    nothing false c = refl

    whole : (c : Bool) → (c && true) ≡ c
    whole true = refl
    whole false = refl

-- the bytes of a result are those of its sign and magnitude
pub result_bytes-is : (k : Kind) (v : ℤ) → result_bytes k v ≡ stored_magnitude k (is_minus v) (unsigned_abs v)
unfolding stored_magnitude
result_bytes-is k v =
    let n : ℕ = (form_of k).digits in
    let m : ℕ = unsigned_abs v in
    stored_digits-is k (is_minus v) (decimal n m) (all_digits-decimal n m)
    ∙ ap (λ x. stored k ((form_of k).signed && (is_minus v && not (x % 10 ^ n == 0))) (decimal n x)) (number-decimal n m)
    ∙ ap (λ (x : ℕ). stored k ((form_of k).signed && (is_minus v && not (x == 0))) (decimal n (m % 10 ^ n))) (mod-eq_of_lt (mod_below m (10 ^ n) (ten_pos n)))
    ∙ ap (stored k ((form_of k).signed && (is_minus v && not (m % 10 ^ n == 0)))) (sym (decimal-low n m))

-- digits with a sign are stored as the number that they are
pub stored_digits-number : (k : Kind) (minus : Bool) (ds : List ℕ) → all_digits 0 ds ≡ true → stored_digits k minus ds ≡ result_bytes k (with_sign minus (number ds))
stored_digits-number k minus ds h =
    let m : ℕ = number ds in
    let size : unsigned_abs (with_sign minus m) ≡ m = unsigned_abs-with_sign minus m in
    stored_digits-is k minus ds h
    ∙ same_sign k minus (is_minus (with_sign minus m)) m (sym (ap (λ b. b && not (m == 0)) (is_minus-with_sign minus m) ∙ twice minus (not (m == 0))))
    ∙ ap (stored_magnitude k (is_minus (with_sign minus m))) (sym size)
    ∙ sym (result_bytes-is k (with_sign minus m))
  where
    twice : (a b : Bool) → ((a && b) && b) ≡ (a && b)
    twice true true = refl
    twice true false = refl
    twice false b = refl

-- digits at a point write the number at that scale
at_point-number : (scale : ℕ) (d : Decimal) → all_digits 0 d.digits ≡ true → number (at_point scale d) ≡ cond (leb d.scale scale) (number d.digits * 10 ^ (scale - d.scale)) (number d.digits / 10 ^ (d.scale - scale))
at_point-number scale d h =
    let ds : List ℕ = d.digits in
    elim (cases_lt scale d.scale) [
      | inl fewer ↦ let k : ℕ = d.scale - scale in
          let none : scale - d.scale ≡ 0 = omega arith in
          let cut : at_point scale d ≡ take (length ds - k) ds = ap (λ i. take (length ds - k) ds ++ replicate i 0) none ∙ append-nil (take (length ds - k) ds) in
          ap number cut ∙ number-take k ds h ∙ sym (ap (λ b. cond b (number ds * 10 ^ (scale - d.scale)) (number ds / 10 ^ k)) (lt-leb d.scale scale fewer))
      | inr most ↦ let k : ℕ = scale - d.scale in
          let none : d.scale - scale ≡ 0 = omega arith in
          let all : length ds - (d.scale - scale) ≡ length ds = omega arith in
          let filled : at_point scale d ≡ ds ++ replicate k 0 = ap (λ i. take i ds ++ replicate k 0) all ∙ ap (λ (xs : List ℕ). xs ++ replicate k 0) (take_all (length ds) ds (omega arith)) in
          ap number filled ∙ number-append ds (replicate k 0) ∙ ap (λ i. number ds * 10 ^ i + number (replicate k 0)) (length-replicate k 0) ∙ ap (λ z. number ds * 10 ^ k + z) (number-zeros k) ∙ (omega arith)
          ∙ sym (ap (λ b. cond b (number ds * 10 ^ k) (number ds / 10 ^ (d.scale - scale))) (le-leb d.scale scale most))
    ]
  where
    number-take : (k : ℕ) (xs : List ℕ) → all_digits 0 xs ≡ true → number (take (length xs - k) xs) ≡ number xs / 10 ^ k
    number-take k xs good =
        elim (cases_lt (length xs) k) [
          | inl all ↦ let none : length xs - k ≡ 0 = omega arith in
              let power : 10 ^ length xs ≤ 10 ^ k = pow-le-pow_right {n = 10} (omega arith) {i = length xs} {j = k} (omega arith) in
              let small : number xs < 10 ^ k = omega (arith, number_below xs good) in
              ap (λ i. number (take i xs)) none ∙ sym (div-eq_of_lt small)
          | inr some ↦ let front : List ℕ = take (length xs - k) xs in
              let rest : List ℕ = drop (length xs - k) xs in
              let size : length rest ≡ k = omega (arith, length-drop (length xs - k) xs) in
              let below : number rest < 10 ^ k = subst (λ (i : ℕ). number rest < 10 ^ i) size (number_below rest (all_digits-drop (length xs - k) xs good)) in
              let split : number xs ≡ number front * 10 ^ k + number rest = ap number (sym (take-append-drop (length xs - k) xs)) ∙ number-append front rest ∙ ap (λ i. number front * 10 ^ i + number rest) size in
              sym (ap (λ (v : ℕ). v / 10 ^ k) split ∙ div-mul-add (number front) (10 ^ k) (number rest) below)
        ]

all_digits-at_point : (scale : ℕ) (d : Decimal) → all_digits 0 d.digits ≡ true → all_digits 0 (at_point scale d) ≡ true
all_digits-at_point scale d h = all_digits-append (take (length d.digits - (d.scale - scale)) d.digits) (replicate (scale - d.scale) 0) (all_digits-take (length d.digits - (d.scale - scale)) d.digits h) (all_digits-zeros (scale - d.scale))

-- a number is stored as its value at the scale of the receiver
pub stored_number-is : (k : Kind) (d : Decimal) (x : Scaled) (scale : ℕ) → (form_of k).scale ≡ scale → all_digits 0 d.digits ≡ true → exact d ≡ x → stored_number k d ≡ result_bytes k (moved_value scale x)
stored_number-is k d x scale at good same =
    let n : ℕ = number d.digits in
    let size : unsigned_abs (with_sign d.minus n) ≡ n = unsigned_abs-with_sign d.minus n in
    let moved : ℕ = cond (leb d.scale scale) (n * 10 ^ (scale - d.scale)) (n / 10 ^ (d.scale - scale)) in
    let value : moved_value scale (exact d) ≡ with_sign d.minus moved =
    ap (λ (m : ℕ). with_sign (is_minus (with_sign d.minus n)) (cond (leb d.scale scale) (m * 10 ^ (scale - d.scale)) (m / 10 ^ (d.scale - scale)))) size
    ∙ with_sign_again d.minus n moved (λ none. vanishes (leb d.scale scale) n (10 ^ (scale - d.scale)) (10 ^ (d.scale - scale)) none) in
    ap (λ (s : ℕ). stored_digits k d.minus (at_point s d)) at
    ∙ stored_digits-number k d.minus (at_point scale d) (all_digits-at_point scale d good)
    ∙ ap (λ (m : ℕ). result_bytes k (with_sign d.minus m)) (at_point-number scale d good)
    ∙ ap (result_bytes k) (sym value)
    ∙ ap (λ (y : Scaled). result_bytes k (moved_value scale y)) same
  where
    vanishes : (b : Bool) (n p q : ℕ) → n ≡ 0 → cond b (n * p) (n / q) ≡ 0
    vanishes true n p q none = ap (λ (m : ℕ). m * p) none ∙ (omega arith)
    vanishes false n p q none = ap (λ (m : ℕ). m / q) none ∙ zero-div q

-- what a receiver of a number stores is its kept value
pub result_bytes-kept : (k : Kind) (v : ℤ) → result_bytes k v ≡ stored k ((form_of k).signed && is_minus (stored_value (form_of k) v)) (decimal (form_of k).digits (unsigned_abs (stored_value (form_of k) v)))
unfolding stored_magnitude
result_bytes-kept k v =
    let n : ℕ = (form_of k).digits in
    let m : ℕ = unsigned_abs v % 10 ^ n in
    let s : Bool = (form_of k).signed in
    let sign : (s && is_minus (with_sign (s && is_minus v) m)) ≡ (s && (is_minus v && not (m == 0))) = ap (λ b. s && b) (is_minus-with_sign (s && is_minus v) m) ∙ twice s (is_minus v) (not (m == 0)) in
    result_bytes-is k v
    ∙ ap (λ b. stored k b (decimal n (unsigned_abs v))) (sym sign)
    ∙ ap (stored k (s && is_minus (with_sign (s && is_minus v) m))) (decimal-low n (unsigned_abs v) ∙ ap (decimal n) (sym (unsigned_abs-with_sign (s && is_minus v) m)))
  where
    twice : (a b c : Bool) → (a && ((a && b) && c)) ≡ (a && (b && c))
    twice true b c = refl
    twice false b c = refl

-- what DISPLAY shows of digits depends on their number alone
pub shown-is : (form : NumForm) (d : Decimal) (v : ℤ) (digits : ℕ) → form.digits ≡ digits → all_digits 0 d.digits ≡ true → value_of d ≡ v → shown v digits ≡ shown_number form d
shown-is form d v digits count good same =
    let n : ℕ = number d.digits in
    let sign : is_minus v ≡ value_minus d = ap is_minus (sym same) ∙ is_minus-with_sign d.minus n ∙ ap (λ b. d.minus && not b) (sym (all_zero-is d.digits)) in
    let size : unsigned_abs v ≡ n = ap unsigned_abs (sym same) ∙ unsigned_abs-with_sign d.minus n in
    ap (λ b. cond {A = List ℕ} b (45 ∷ []) [] ++ codes (decimal digits (unsigned_abs v))) sign
    ∙ ap (λ (m : ℕ). cond {A = List ℕ} (value_minus d) (45 ∷ []) [] ++ codes (decimal digits m)) size
    ∙ ap (λ (i : ℕ). cond {A = List ℕ} (value_minus d) (45 ∷ []) [] ++ codes (decimal i n)) (sym count)
    ∙ ap (λ (ds : List ℕ). cond {A = List ℕ} (value_minus d) (45 ∷ []) [] ++ codes ds) (sym (aligned-is form.digits d.digits good))

-- a literal is the number that is written
pub literal-exact : (v : ℤ) (scale digits : ℕ) → unsigned_abs v < 10 ^ digits → exact (literal_number v scale digits) ≡ scaled v scale
literal-exact v scale digits small =
    ap (λ (m : ℕ). scaled (with_sign (is_minus v) m) scale) (number-decimal digits (unsigned_abs v) ∙ mod-eq_of_lt small) ∙ ap (λ (z : ℤ). scaled z scale) (with_sign-unsigned_abs v)
