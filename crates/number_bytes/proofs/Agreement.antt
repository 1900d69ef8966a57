-- A value by places and a number by its digits that are one, or both absent.
use Rattle.std.proofs.Common.{◌≡◌, ℕ, zero, suc, ◌-◌, ◌^◌, ◌<◌, ◌≤◌, Bool, true, false, cond, ℤ, List, [], ◌∷◌, length, get_or, Option, Some, None, refl, sym, ap, subst, ◌∙◌, arith, leb}
use Rattle.std.specs.Prelude.{unsigned_abs}
use Rattle.std.proofs.Math.Nat.{pow-le-pow_right}
use Rattle.std.proofs.lemmas.Bool.{and_parts, and_from, leb-true, le-leb}
use Rattle.std.proofs.lemmas.List.{length-map}
use Rattle.decimal_bytes.specs.Positional as places
use Rattle.decimal_bytes.specs.Signed.{signed_number}
use Rattle.decimal_bytes.specs.declared.form.Scaled.{Scaled}
use Rattle.byte_lists.specs.Digit.{is_digit, all_digits, number, digits_in}
use Rattle.program_meaning.specs.Number.{Decimal, with_sign, value_of, text_number}
use Rattle.program_meaning.specs.Arithmetic as exact
use Rattle.number_bytes.specs.Held.{IsHeld}
use Rattle.number_bytes.proofs.DigitLaws.{number_below}
use Rattle.number_bytes.proofs.PlaceLaws.{digit_in, decimal-list}

pub unsigned_abs-with_sign : (minus : Bool) (n : ℕ) → unsigned_abs (with_sign minus n) ≡ n
unsigned_abs-with_sign true zero = refl
unsigned_abs-with_sign true (suc n) = refl
unsigned_abs-with_sign false n = refl

-- a number with these digits, if it is there
pub record IsNumber (value : ℤ) (scale : ℕ) (there : Option Decimal) : Type 0 where
  pub decimal : Decimal
  pub is : there ≡ Some decimal
  pub digits : all_digits 0 decimal.digits ≡ true
  pub short : length decimal.digits ≤ 19
  pub amount : value ≡ value_of decimal
  pub places : decimal.scale ≡ scale

-- both are there and one number, or neither is
abbrev pub Agrees : Option ℤ → ℕ → Option Decimal → Type 0
Agrees None scale there = there ≡ None
Agrees (Some v) scale there = IsNumber v scale there

pub none_from : (o : Option ℤ) (scale : ℕ) (there : Option Decimal) → Agrees o scale there → o ≡ None → there ≡ None
none_from None scale there h e = h
none_from (Some v) scale there h e = cc

pub number_from : (o : Option ℤ) (v : ℤ) (scale : ℕ) (there : Option Decimal) → Agrees o scale there → o ≡ Some v → IsNumber v scale there
number_from o v scale there h e = subst (λ (x : Option ℤ). Agrees x scale there) e h

pub held_from : (v : ℤ) (scale : ℕ) (there : Option Decimal) (x : Scaled) → IsNumber v scale there → x.number ≡ v → x.scale ≡ scale → IsHeld there x
held_from v scale there x h same_number same_scale = record {
  decimal = h.decimal;
  is = h.is;
  exactly = record {
    digits = h.digits;
    number = let number : value_of h.decimal ≡ x.number = sym h.amount ∙ sym same_number in
        let scaled : h.decimal.scale ≡ x.scale = h.places ∙ sym same_scale in
        ap (λ (n : ℤ). exact.scaled n h.decimal.scale) number ∙ ap (λ (s : ℕ). exact.scaled x.number s) scaled;
  };
}

pub small_from : (v : ℤ) (scale : ℕ) (there : Option Decimal) → IsNumber v scale there → unsigned_abs v < 10 ^ 19
small_from v scale there h =
    let below = number_below h.decimal.digits h.digits in
    let short = h.short in
    let power : 10 ^ length h.decimal.digits ≤ 10 ^ 19 = pow-le-pow_right {n = 10} (omega arith) {i = length h.decimal.digits} {j = 19} short in
    let size : unsigned_abs v ≡ number h.decimal.digits = ap unsigned_abs h.amount ∙ unsigned_abs-with_sign h.decimal.minus (number h.decimal.digits) in
    omega arith

-- the number of a sign and digits, if they are digits
pub digits_agree : (minus : Bool) (scale n : ℕ) (good : Bool) (ds : List ℕ) → (good ≡ true → (n ≡ number ds) × (all_digits 0 ds ≡ true)) → length ds ≤ 19 →
    Agrees (signed_number (Some minus) (cond good (Some n) None)) scale (cond good (Some (record { minus = minus; digits = ds; scale = scale })) None)
digits_agree minus scale n true ds h short = record {
  decimal = record { minus = minus; digits = ds; scale = scale };
  is = refl;
  digits = (h refl).1;
  short = short;
  amount = ap (λ m. with_sign minus m) (h refl).0;
  places = refl;
}
digits_agree minus scale n false ds h short = refl

-- the digits of a text are digits
pub all_digits-digits_in : (bs : List ℕ) → all_digits 48 bs ≡ true → all_digits 0 (digits_in bs) ≡ true
all_digits-digits_in [] h = refl
all_digits-digits_in (b ∷ bs) h =
    let parts = and_parts _ _ h in
    let top : b ≤ 57 = leb-true b 57 (and_parts (leb 48 b) (leb b 57) parts.0).1 in
    let first : leb (b - 48) 9 ≡ true = le-leb (b - 48) 9 (omega arith) in
    let low : leb 0 (b - 48) ≡ true = le-leb 0 (b - 48) (omega arith) in
    and_from (is_digit 0 (b - 48)) (all_digits 0 (digits_in bs)) (and_from (leb 0 (b - 48)) (leb (b - 48) 9) low first) (all_digits-digits_in bs parts.1)

-- a text of digits, each in its place
pub text_agrees : (minus : Bool) (scale n : ℕ) (bs : List ℕ) (digit : ℕ → Option ℕ) → n ≤ 19 → length bs ≡ n → ((k : ℕ) → k < n → digit k ≡ digit_in 48 (get_or bs k 0)) →
    Agrees (signed_number (Some minus) (places.decimal n digit)) scale (text_number minus scale bs)
text_agrees minus scale n bs digit few size h =
    let size' : length (digits_in bs) ≡ length bs = length-map bs (λ b. b - 48) in
    rw (decimal-list 48 n bs digit size h) (digits_agree minus scale (number (digits_in bs)) (all_digits 48 bs) (digits_in bs) (λ good. (refl, all_digits-digits_in bs good)) (omega arith))
