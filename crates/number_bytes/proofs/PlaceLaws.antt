-- A number by its places, as a sum, is the number that a list of digits writes.
use Rattle.std.proofs.Common.{◌≡◌, ℕ, zero, suc, ◌+◌, ◌-◌, ◌*◌, ◌^◌, ◌<◌, Bool, true, false, cond, ◌&&◌, List, [], ◌∷◌, length, get_or, map, Option, Some, None, is_some, unwrap_or, refl, sym, ap, ◌∙◌, arith}
use Rattle.std.proofs.lemmas.Bool.{and_parts}
use Rattle.std.proofs.lemmas.List.{length-map}
use Rattle.decimal_bytes.specs.Positional as places
use Rattle.decimal_bytes.specs.Positional.{sum_below, number_of}
use Rattle.byte_lists.specs.Digit.{is_digit, all_digits, number}
use Rattle.number_bytes.proofs.BoolLaws.{and_assoc, and_true, cond_same}

sum_below-same : (n : ℕ) (f g : ℕ → ℕ) → ((k : ℕ) → k < n → f k ≡ g k) → sum_below n f ≡ sum_below n g
sum_below-same zero f g h = refl
sum_below-same (suc n) f g h =
    let before = sum_below-same n f g (λ k below. h k (omega arith)) in
    let last = h n (omega arith) in
    omega arith

-- the first term of a sum
sum_below-first : (n : ℕ) (f : ℕ → ℕ) → sum_below (suc n) f ≡ f 0 + sum_below n (λ k. f (suc k))
sum_below-first zero f = omega arith
sum_below-first (suc n) f = let before = sum_below-first n f in omega arith

-- the first digit of a number
pub number_of-first : (base n : ℕ) (digit : ℕ → ℕ) → number_of base (suc n) digit ≡ digit 0 * base ^ n + number_of base n (λ k. digit (suc k))
number_of-first base n digit =
    let first = sum_below-first n (λ k. digit k * base ^ (suc n - 1 - k)) in
    let rest = sum_below-same n (λ k. digit (suc k) * base ^ (suc n - 1 - suc k)) (λ k. digit (suc k) * base ^ (n - 1 - k)) (λ k below. let e : suc n - 1 - suc k ≡ n - 1 - k = omega arith in ap (λ i. digit (suc k) * base ^ i) e) in
    let exponent : suc n - 1 - 0 ≡ n = omega arith in
    let power : digit 0 * base ^ (suc n - 1 - 0) ≡ digit 0 * base ^ n = ap (λ i. digit 0 * base ^ i) exponent in
    first ∙ ap (λ s. digit 0 * base ^ (suc n - 1 - 0) + s) rest ∙ ap (λ s. s + number_of base n (λ k. digit (suc k))) power

all_digits-first : (n : ℕ) (digit : ℕ → Option ℕ) → places.all_digits (suc n) digit ≡ (is_some (digit 0) && places.all_digits n (λ k. digit (suc k)))
all_digits-first zero digit = sym (and_true (is_some (digit 0)))
all_digits-first (suc n) digit =
    ap (λ b. b && is_some (digit (suc n))) (all_digits-first n digit) ∙ and_assoc (is_some (digit 0)) (places.all_digits n (λ k. digit (suc k))) (is_some (digit (suc n)))

-- the digit of a code, if it is one
abbrev pub digit_in : ℕ → ℕ → Option ℕ
digit_in base c = cond (is_digit base c) (Some (c - base)) None

is_some-digit_in : (base c : ℕ) (o : Option ℕ) → o ≡ digit_in base c → is_some o ≡ is_digit base c
is_some-digit_in base c o h = ap is_some h ∙ tested (is_digit base c) (c - base)
  where
    tested : (b : Bool) (d : ℕ) → is_some (cond b (Some d) None) ≡ b
    tested true d = refl
    tested false d = refl

unwrap_or-digit_in : (base c : ℕ) (o : Option ℕ) → o ≡ digit_in base c → is_digit base c ≡ true → unwrap_or o 0 ≡ c - base
unwrap_or-digit_in base c o h good = ap (λ x. unwrap_or x 0) (h ∙ ap (λ b. cond {A = Option ℕ} b (Some (c - base)) None) good)

all_digits-list : (base : ℕ) (cs : List ℕ) (digit : ℕ → Option ℕ) → ((k : ℕ) → k < length cs → digit k ≡ digit_in base (get_or cs k 0)) → places.all_digits (length cs) digit ≡ all_digits base cs
all_digits-list base [] digit h = refl
all_digits-list base (c ∷ cs) digit h =
    let first = is_some-digit_in base c (digit 0) (h 0 (omega arith)) in
    let rest = all_digits-list base cs (λ k. digit (suc k)) (λ k below. h (suc k) (omega arith)) in
    all_digits-first (length cs) digit ∙ ap (λ b. b && places.all_digits (length cs) (λ k. digit (suc k))) first ∙ ap (λ b. is_digit base c && b) rest

number_of-list : (base : ℕ) (cs : List ℕ) (digit : ℕ → Option ℕ) → ((k : ℕ) → k < length cs → digit k ≡ digit_in base (get_or cs k 0)) → all_digits base cs ≡ true → number_of 10 (length cs) (λ k. unwrap_or (digit k) 0) ≡ number (map (λ c. c - base) cs)
number_of-list base [] digit h good = refl
number_of-list base (c ∷ cs) digit h good =
    let parts = and_parts _ _ good in
    let first = unwrap_or-digit_in base c (digit 0) (h 0 (omega arith)) parts.0 in
    let rest = number_of-list base cs (λ k. digit (suc k)) (λ k below. h (suc k) (omega arith)) parts.1 in
    let size = length-map cs (λ c. c - base) in
    number_of-first 10 (length cs) (λ k. unwrap_or (digit k) 0)
    ∙ ap (λ d. d * 10 ^ length cs + number_of 10 (length cs) (λ k. unwrap_or (digit (suc k)) 0)) first
    ∙ ap (λ v. (c - base) * 10 ^ length cs + v) rest
    ∙ ap (λ n. (c - base) * 10 ^ n + number (map (λ c. c - base) cs)) (sym size)

-- the decimal number of codes, each of which is a digit or none of them counts
pub decimal-list : (base n : ℕ) (cs : List ℕ) (digit : ℕ → Option ℕ) → length cs ≡ n → ((k : ℕ) → k < n → digit k ≡ digit_in base (get_or cs k 0)) → places.decimal n digit ≡ cond (all_digits base cs) (Some (number (map (λ c. c - base) cs))) None
decimal-list base n cs digit size h =
    let all = all_digits-list base cs digit (λ k below. h k (omega arith)) in
    ap (λ m. places.decimal m digit) (sym size)
    ∙ ap (λ b. cond {A = Option ℕ} b (Some (number_of 10 (length cs) (λ k. unwrap_or (digit k) 0))) None) all
    ∙ cond_same (all_digits base cs) _ _ _ (λ good. ap (λ v. Some v) (number_of-list base cs digit (λ k below. h k (omega arith)) good))
