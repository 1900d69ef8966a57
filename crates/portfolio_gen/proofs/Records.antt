-- Records of 20 bytes, one after the other, whose first twelve bytes are digits.
use Rattle.std.proofs.Common.{◌≡◌, ℕ, zero, suc, ◌+◌, ◌-◌, ◌*◌, ◌/◌, ◌%◌, ◌<◌, List, [], ◌∷◌, ◌++◌, length, get_or, refl, sym, ap, ◌∙◌, subst, arith, length-append, append_assoc, add-one}
use Rattle.std.specs.Char.{IsAsciiDigit}
use Rattle.std.specs.List.{range_with_len, flat_map}
use Rattle.std.proofs.lemmas.Nat.{mod_below}
use Rattle.std.proofs.lemmas.List.{get_or_append_left, get_or-append-add}
use Rattle.portfolio_gen.specs.Digits.{HaveDigits}
use Rattle.portfolio_gen.specs.Employees.{drawn, employee, employee_hired, employees}

digit_byte : (n : ℕ) → IsAsciiDigit (n % 10 + 48)
digit_byte n = let below : n % 10 < 10 = mod_below n 10 (omega arith) in (omega arith, omega arith)

-- the first n bytes are digits
abbrev BeginsWithDigits : ℕ → List ℕ → Type 0
BeginsWithDigits zero bytes = Unit {0}
BeginsWithDigits (suc n) [] = ⊥
BeginsWithDigits (suc n) (b ∷ bytes) = IsAsciiDigit b × BeginsWithDigits n bytes

digit_at : (n : ℕ) (bytes : List ℕ) (j : ℕ) → BeginsWithDigits n bytes → j < n → IsAsciiDigit (get_or bytes j 0)
digit_at zero bytes j h below = absurd (omega arith)
digit_at (suc n) [] j h below = absurd h
digit_at (suc n) (b ∷ bytes) zero h below = h.0
digit_at (suc n) (b ∷ bytes) (suc j) h below = digit_at n bytes j h.1 (omega arith)

pub employee_length : (count i : ℕ) → length (employee count i) ≡ 20
employee_length count i = refl

employee_digits : (count i : ℕ) → BeginsWithDigits 12 (employee count i)
employee_digits count i = (
  digit_byte _,
  (
    digit_byte _,
    (
      digit_byte _,
      (
        digit_byte _,
        (
          digit_byte _,
          (
            digit_byte _,
            (digit_byte _, (digit_byte _, (digit_byte _, (digit_byte _, (digit_byte _, (digit_byte _, tt)))))),
          ),
        ),
      ),
    ),
  ),
)

lengths : (f : ℕ → List ℕ) → ((i : ℕ) → length (f i) ≡ 20) → (a n : ℕ) → length (flat_map f (range_with_len a n)) ≡ 20 * n
lengths f each a zero = refl
lengths f each a (suc n) =
    let front : length (f a) ≡ 20 = each a in
    let rest : length (flat_map f (range_with_len (a + 1) n)) ≡ 20 * n = lengths f each (a + 1) n in
    let whole : length (f a ++ flat_map f (range_with_len (a + 1) n)) ≡ length (f a) + length (flat_map f (range_with_len (a + 1) n)) = length-append (f a) _ in
    omega arith

each_has_digits : (f : ℕ → List ℕ) → ((i : ℕ) → length (f i) ≡ 20) → ((i : ℕ) → BeginsWithDigits 12 (f i))
    → (a n k j : ℕ) → k < n → j < 12 → IsAsciiDigit (get_or (flat_map f (range_with_len a n)) (20 * k + j) 0)
each_has_digits f each begins a zero k j h below = absurd (omega arith)
each_has_digits f each begins a (suc n) zero j h below =
    let long : length (f a) ≡ 20 = each a in
    let rest : List ℕ = flat_map f (range_with_len (a + 1) n) in
    let within : j < length (f a) = omega arith in
    let place : 20 * 0 + j ≡ j = omega arith in
    let front : get_or (f a ++ rest) j 0 ≡ get_or (f a) j 0 = get_or_append_left (f a) rest 0 j within in
    let at : get_or (f a ++ rest) (20 * 0 + j) 0 ≡ get_or (f a) j 0 = ap (λ (m : ℕ). get_or (f a ++ rest) m 0) place ∙ front in
    subst IsAsciiDigit (sym at) (digit_at 12 (f a) j (begins a) below)
each_has_digits f each begins a (suc n) (suc k) j h below =
    let rest : List ℕ = flat_map f (range_with_len (a + 1) n) in
    let long : length (f a) ≡ 20 = each a in
    let place : length (f a) + (20 * k + j) ≡ 20 * suc k + j = omega arith in
    let after : get_or (f a ++ rest) (length (f a) + (20 * k + j)) 0 ≡ get_or rest (20 * k + j) 0 = get_or-append-add (f a) rest (20 * k + j) 0 in
    let at : get_or (f a ++ rest) (20 * suc k + j) 0 ≡ get_or rest (20 * k + j) 0 = ap (λ (m : ℕ). get_or (f a ++ rest) m 0) (sym place) ∙ after in
    subst IsAsciiDigit (sym at) (each_has_digits f each begins (a + 1) n k j (omega arith) below)

-- the file of so many employees has 20 bytes for each of them
pub employees_length : (count : ℕ) → length (employees count) ≡ 20 * count
employees_length count = lengths (employee count) (employee_length count) 1 count

-- each record of the file begins with twelve digits
pub employees_digits : (count : ℕ) → HaveDigits count (employees count)
employees_digits count k j h below = each_has_digits (employee count) (employee_length count) (employee_digits count) 1 count k j h below

pub three_appended : (a b c d xs ys zs : List ℕ) → b ≡ a ++ xs → c ≡ b ++ ys → d ≡ c ++ zs → d ≡ a ++ (xs ++ (ys ++ zs))
three_appended a b c d xs ys zs e f g =
    g ∙ ap (λ (l : List ℕ). l ++ zs) (f ∙ ap (λ (l : List ℕ). l ++ ys) e)
    ∙ append_assoc (a ++ xs) ys zs ∙ append_assoc a xs (ys ++ zs)

-- what was drawn last gives the next
pub next_is_drawn : (count i x y : ℕ) → x ≡ drawn count i → y ≡ (1103515245 * x + 12345) % 2147483648 → y ≡ drawn count (i + 1)
next_is_drawn count i x y e f =
    f ∙ ap (λ (n : ℕ). (1103515245 * n + 12345) % 2147483648) e ∙ ap (drawn count) (sym (add-one i))

-- the next record moves from those to come to those so far
pub next_record : (count i x : ℕ) (before after : List ℕ) → i < count
    → before ++ flat_map (employee count) (range_with_len (i + 1) (count - i)) ≡ employees count
    → x ≡ drawn count (i + 1) → after ≡ before ++ employee_hired (i + 1) (x / 65536)
    → after ++ flat_map (employee count) (range_with_len (i + 1 + 1) (count - (i + 1))) ≡ employees count
next_record count i x before after below whole drawn_now written =
    let left : ℕ = count - (i + 1) in
    let rest : List ℕ = flat_map (employee count) (range_with_len (i + 1 + 1) left) in
    let one_more : suc left ≡ count - i = omega arith in
    let unfolded : before ++ (employee count (i + 1) ++ rest) ≡ employees count
    = ap (λ (n : ℕ). before ++ flat_map (employee count) (range_with_len (i + 1) n)) one_more ∙ whole in
    let now : after ≡ before ++ employee count (i + 1) = written ∙ ap (λ (n : ℕ). before ++ employee_hired (i + 1) (n / 65536)) drawn_now in
    ap (λ (l : List ℕ). l ++ rest) now ∙ append_assoc before (employee count (i + 1)) rest ∙ unfolded
