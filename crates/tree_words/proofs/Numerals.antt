-- What is read as a number has from 1 to 18 digits, and is below the power of ten of so many.
use Rattle.std.proofs.Common.{ℕ, zero, suc, ◌+◌, ◌-◌, ◌*◌, ◌^◌, ◌<◌, ◌≤◌, ◌==◌, nat_lt, nat_le, ◌≡◌, refl, sym, ap, subst, Bool, true, false, List, [], ◌∷◌, length, Option, Some, None, pos, negsuc, ◌-ℤ◌, if◌then◌else◌, option_and_then, arith}
use Rattle.std.specs.Char.{is_ascii_digit}
use Rattle.std.specs.Str.{all_ascii_digits}
use Rattle.std.proofs.Math.Nat.{pow-zero, pow-suc}
use Rattle.std.proofs.Math.IntN.{+ℤ_idl}
use Rattle.std.proofs.lemmas.Nat.{pow-add, mul-add-lt}
use Rattle.std.proofs.lemmas.Bool.{and_from, and_parts, leb-true, ltb-true, le-leb, lt-ltb}
use Rattle.std.proofs.lemmas.Bool.Decides.{nat_tests}
use Rattle.decimal_bytes.specs.declared.form.Scaled.{Scaled}
use Rattle.cond_reader.specs.Chars.{number, before_point, after_point, decimals, is_ended, is_decimal, decimal_of, decimal, scaled, signed, numeral}
use Rattle.tree_words.specs.Fits.{magnitude, is_numeral}

digit-below : (b : ℕ) → is_ascii_digit b ≡ true → b - 48 < 10
digit-below b h = grind (arith, nat_tests)

-- digits write a number below the power of ten of their count
number-below : (text : List ℕ) → all_ascii_digits text ≡ true → number text < 10 ^ length text
number-below [] digits = omega (arith, pow-zero 10)
number-below (b ∷ bs) digits =
    let (first, others) = and_parts (is_ascii_digit b) (all_ascii_digits bs) digits in
    subst (λ (p : ℕ). (b - 48) * 10 ^ length bs + number bs < p) (sym (pow-suc 10 (length bs)))
    (mul-add-lt (b - 48) (10 ^ length bs) (number bs) 10 (digit-below b first) (number-below bs others))

both-below : (front ds : List ℕ) → all_ascii_digits front ≡ true → all_ascii_digits ds ≡ true → number front * 10 ^ length ds + number ds < 10 ^ (length front + length ds)
both-below front ds one other =
    let less : number front * 10 ^ length ds + number ds < 10 ^ length ds * 10 ^ length front =
    mul-add-lt (number front) (10 ^ length ds) (number ds) (10 ^ length front) (number-below front one) (number-below ds other)
    in
    let whole : 10 ^ (length front + length ds) ≡ 10 ^ length front * 10 ^ length ds = pow-add 10 (length front) (length ds) in
    omega (arith, less, whole)

magnitude-signed : (is_negative : Bool) (n : ℕ) → magnitude (if is_negative then pos 0 -ℤ pos n else pos n) ≡ n
magnitude-signed false n = refl
magnitude-signed true zero = refl
magnitude-signed true (suc n) = ap magnitude (+ℤ_idl (negsuc n))

scaled-fits : (is_negative : Bool) (front ds : List ℕ) → all_ascii_digits front ≡ true → all_ascii_digits ds ≡ true
    → 0 < length front + length ds → length front + length ds ≤ 18
    → is_numeral ((scaled is_negative (decimal_of front ds)).0) ((scaled is_negative (decimal_of front ds)).1) ≡ true
scaled-fits is_negative front ds one other some few =
    let digits = length front + length ds in
    let value = number front * 10 ^ length ds + number ds in
    let below : magnitude (if is_negative then pos 0 -ℤ pos value else pos value) < 10 ^ digits =
    subst (λ (m : ℕ). m < 10 ^ digits) (sym (magnitude-signed is_negative value)) (both-below front ds one other)
    in
    and_from _ _ (le-leb 1 digits some) (and_from _ _ (le-leb digits 18 few) (and_from _ _ (le-leb (length ds) digits (omega arith)) (lt-ltb _ _ below)))

abbrev value_or : Scaled × ℕ → Option (Scaled × ℕ) → Scaled × ℕ
value_or default None = default
value_or default (Some n) = n

decided : (is_negative : Bool) (front : List ℕ) (rest : Option (List ℕ)) (b : Bool) (n : Scaled × ℕ) → is_decimal front rest ≡ b
    → option_and_then (λ u. Some (scaled is_negative u)) (if b then Some (decimal_of front (decimals rest)) else None) ≡ Some n
    → is_numeral (n.0) (n.1) ≡ true
decided is_negative front rest false n is e = absurd (cc)
decided is_negative front rest true n is e =
    let count = length front + length (decimals rest) in
    let (one, more_1) = and_parts (all_ascii_digits front) _ is in
    let (other, more_2) = and_parts (all_ascii_digits (decimals rest)) _ more_1 in
    let (_, more_3) = and_parts (is_ended rest) _ more_2 in
    let (some, few) = and_parts (nat_lt 0 count) (nat_le count 18) more_3 in
    subst (λ (m : Scaled × ℕ). is_numeral (m.0) (m.1) ≡ true) (ap (value_or n) e)
    (scaled-fits is_negative front (decimals rest) one other (ltb-true 0 count some) (leb-true count 18 few))

signed-fits : (is_negative : Bool) (text : List ℕ) (n : Scaled × ℕ) → signed is_negative text ≡ Some n → is_numeral (n.0) (n.1) ≡ true
unfolding signed decimal
signed-fits is_negative text n e = decided is_negative (before_point text) (after_point text) (is_decimal (before_point text) (after_point text)) n refl e

abbrev signed_by : Bool → Bool → List ℕ → List ℕ → Option (Scaled × ℕ)
signed_by is_minus is_plus rest all = if is_minus then signed true rest else (if is_plus then signed false rest else signed false all)

signed-by-fits : (is_minus is_plus : Bool) (rest all : List ℕ) (n : Scaled × ℕ) → signed_by is_minus is_plus rest all ≡ Some n → is_numeral (n.0) (n.1) ≡ true
signed-by-fits true is_plus rest all n e = signed-fits true rest n e
signed-by-fits false true rest all n e = signed-fits false rest n e
signed-by-fits false false rest all n e = signed-fits false all n e

pub numeral-fits : (text : List ℕ) (n : Scaled × ℕ) → numeral text ≡ Some n → is_numeral (n.0) (n.1) ≡ true
unfolding numeral
numeral-fits [] n e = signed-fits false [] n e
numeral-fits (b ∷ bs) n e = signed-by-fits (b == 45) (b == 43) bs (b ∷ bs) n e
