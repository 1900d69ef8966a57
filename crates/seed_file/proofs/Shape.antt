-- The shape of a row: its four fields, and the number of its digit.
use Rattle.std.proofs.Common.{◌≡◌, ℕ, ◌<◌, Bool, true, false, cond, nat_le, List, [], ◌∷◌, length, Some, None, Result, Ok, Err, refl, sym, ap, ◌∙◌, subst, arith}
use Rattle.std.proofs.lemmas.Bool.{true≢false, leb-true, leb-false}
use Rattle.std.specs.Result.{is_ok}
use Rattle.std.specs.Prelude.{bytes_eq, decimal, IsUtf8}
use Rattle.std.specs.Str.Parse.{ParsesUnsigned}
use Rattle.std.proofs.lemmas.Fmt.{parse-decimal, IsAscii-decimal}
use Rattle.std.proofs.lemmas.Str.{IsUtf8-from_ascii}
use Rattle.std.proofs.lemmas.Slice.Eq.{bytes_eq-Decides}
use Rattle.csv.specs.Records.{field_at}
use Rattle.seed_file.specs.Rows.{IsDigit, IsDigitRead, IsNotFour, digit_if, field}

pub four : (fs : List (List ℕ)) → length fs ≡ 4 → fs ≡ field fs 0 ∷ field fs 1 ∷ field fs 2 ∷ field fs 3 ∷ []
unfolding field_at
four [] e = absurd (omega (arith, e))
four (a ∷ []) e = absurd (omega (arith, e))
four (a ∷ b ∷ []) e = absurd (omega (arith, e))
four (a ∷ b ∷ c ∷ []) e = absurd (omega (arith, e))
four (a ∷ b ∷ c ∷ d ∷ []) e = refl
four (a ∷ b ∷ c ∷ d ∷ x ∷ fs) e = absurd (omega (arith, e))

pub not_four : (fs : List (List ℕ)) → (length fs ≡ 4 → ⊥) → IsNotFour fs
not_four [] e = tt
not_four (a ∷ []) e = tt
not_four (a ∷ b ∷ []) e = tt
not_four (a ∷ b ∷ c ∷ []) e = tt
not_four (a ∷ b ∷ c ∷ d ∷ []) e = e refl
not_four (a ∷ b ∷ c ∷ d ∷ x ∷ fs) e = tt

-- a digit is text
pub no_digit : (text : List ℕ) → (IsUtf8 text → ⊥) → (n : ℕ) → IsDigit text n → ⊥
no_digit text none n h = none (subst IsUtf8 (sym h.0) (IsUtf8-from_ascii (decimal n) (IsAscii-decimal n (omega (arith, h.2)))))

parsed : {E : Type 0} (text : List ℕ) (r : Result ℕ E) → ParsesUnsigned 16 10 text r → (n : ℕ) → IsDigit text n → r ≡ Ok n
parsed text r p n h = parse-decimal 16 n text r (omega (arith, h.2)) (omega (arith, h.2)) h.0 p

abbrev Parses : {E : Type 0} → List ℕ → Result ℕ E → Type 0
Parses text r = ParsesUnsigned 16 10 text r

abbrev good : {E : Type 0} → ℕ → Result ℕ E
good n = Ok n

abbrev bad : {E : Type 0} → E → Result ℕ E
bad e = Err e

-- what can't be parsed is no digit
pub unparsed : {E : Type 0} (text : List ℕ) (e : E) → Parses text (bad e) → (n : ℕ) → IsDigit text n → ⊥
unparsed text e p n h = true≢false (sym (ap is_ok (parsed text (bad e) p n h)))

abbrev value : {E : Type 0} → Result ℕ E → ℕ
value (Ok n) = n
value (Err e) = 0

module _ (E : Type 0) (text : List ℕ) (m : ℕ) (p : Parses {E = E} text (good m)) where
  same : (n : ℕ) → IsDigit text n → m ≡ n
  same n h = ap (value {E = E}) (parsed text (good m) p n h)

  few : m < 65536
  few = subst (λ (x : ℕ). x < 65536) (sym p.1) p.0.1

  -- a number that is parsed is the digit if it is written so
  by_cases : (b c : Bool) → bytes_eq (decimal m) text ≡ b → nat_le 1 m ≡ c → IsDigitRead text (cond b (cond c (Some m) None) None)
  by_cases true true e f = (sym ((bytes_eq-Decides (decimal m) text).0 e), leb-true 1 m f, omega (arith, few))
  by_cases true false e f = λ n h. absurd (omega (arith, h.1, same n h, leb-false 1 m f))
  by_cases false c e f = λ n h. true≢false (sym ((bytes_eq-Decides (decimal m) text).1 (ap decimal (same n h) ∙ sym h.0)) ∙ e)

  pub digit_read : (is_written : Bool) → is_written ≡ bytes_eq (decimal m) text → IsDigitRead text (digit_if m is_written)
  digit_read is_written e = by_cases is_written (nat_le 1 m) (sym e) refl

pub four_as : (fs : List (List ℕ)) (a b c d : List ℕ) → length fs ≡ 4 → a ≡ field fs 0 → b ≡ field fs 1 → c ≡ field fs 2 → d ≡ field fs 3 → fs ≡ a ∷ b ∷ c ∷ d ∷ []
four_as fs a b c d e p q r s = rw (p, q, r, s) (four fs e)
