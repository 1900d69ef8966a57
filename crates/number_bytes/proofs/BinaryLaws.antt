-- What binary bytes hold, by places and by digits.
use Rattle.std.proofs.Common.{◌≡◌, ℕ, suc, ◌+◌, ◌-◌, ◌*◌, ◌^◌, ◌<◌, ◌≤◌, Bool, true, false, cond, List, [], ◌∷◌, length, get_or, slice_index, ℤ, pos, negsuc, Some, refl, sym, ap, subst, ◌∙◌, inl, inr, arith, leb}
use Rattle.std.specs.Prelude.{unsigned_abs, ◌-ℤ◌}
use Rattle.std.proofs.Math.Nat.{pow-zero, pow-succ', pow-le-pow_right, mod-eq_of_lt, mul-le-mul_right}
use Rattle.std.proofs.lemmas.Bool.{cases_lt, lt-ltb, le-ltb, cond-true, cond-false}
use Rattle.decimal_bytes.specs.Positional.{number_of}
use Rattle.decimal_bytes.specs.Binary as bytes
use Rattle.decimal_bytes.specs.declared.form.NumForm.{NumForm}
use Rattle.program_meaning.specs.Number.{with_sign, is_minus, byte_number, twos_complement, spelled, binary_number}
use Rattle.number_bytes.specs.Held.{read_form}
use Rattle.number_bytes.proofs.DigitLaws.{length-decimal, number-decimal, all_digits-decimal}
use Rattle.number_bytes.proofs.PlaceLaws.{number_of-first}
use Rattle.number_bytes.proofs.Agreement.{IsNumber}

pub byte_number-is : (bs : List ℕ) → number_of 256 (length bs) (slice_index bs) ≡ byte_number bs
byte_number-is [] = refl
byte_number-is (b ∷ bs) = number_of-first 256 (length bs) (slice_index (b ∷ bs)) ∙ ap (λ r. b * 256 ^ length bs + r) (byte_number-is bs)

pub byte_number_below : (bs : List ℕ) → ((k : ℕ) → get_or bs k 0 < 256) → byte_number bs < 256 ^ length bs
byte_number_below [] h = omega (arith, pow-zero 256)
byte_number_below (b ∷ bs) h =
    let first : b < 256 = h 0 in
    let rest = byte_number_below bs (λ k. h (suc k)) in
    let power : 256 ^ suc (length bs) ≡ 256 * 256 ^ length bs = pow-succ' 256 (length bs) in
    let top : b ≤ 255 = omega arith in
    let most : b * 256 ^ length bs ≤ 255 * 256 ^ length bs = mul-le-mul_right (256 ^ length bs) top in
    omega arith

-- the magnitude of a number below zero
pub unsigned_abs-minus : (u p : ℕ) → u ≤ p → unsigned_abs (pos u -ℤ pos p) ≡ p - u
unsigned_abs-minus u p h = grind arith

pub complement_small : (k u : ℕ) → k ≤ 8 → u < 256 ^ k → unsigned_abs (twos_complement k u) < 10 ^ 19
complement_small k u few below =
    let power : 256 ^ k ≤ 256 ^ 8 = pow-le-pow_right {n = 256} (omega arith) {i = k} {j = 8} few in
    elim (cases_lt (2 * u) (256 ^ k)) [
      | inl low ↦ let is : twos_complement k u ≡ pos u = cond-true _ _ _ (lt-ltb (2 * u) (256 ^ k) low) in
          let size : unsigned_abs (twos_complement k u) ≡ u = ap unsigned_abs is in
          omega arith
      | inr high ↦ let is : twos_complement k u ≡ pos u -ℤ pos (256 ^ k) = cond-false _ _ _ (le-ltb (2 * u) (256 ^ k) high) in
          let size : unsigned_abs (twos_complement k u) ≡ 256 ^ k - u = ap unsigned_abs is ∙ unsigned_abs-minus u (256 ^ k) (omega arith) in
          omega arith
    ]

pub with_sign-unsigned_abs : (v : ℤ) → with_sign (is_minus v) (unsigned_abs v) ≡ v
with_sign-unsigned_abs (pos n) = ap (λ b. with_sign b n) (le-ltb n 0 (omega arith))
with_sign-unsigned_abs (negsuc n) = refl

pub spelled_agrees : (v : ℤ) (scale : ℕ) → unsigned_abs v < 10 ^ 19 → IsNumber v scale (Some (spelled 19 scale v))
spelled_agrees v scale small = record {
  decimal = spelled 19 scale v;
  is = refl;
  digits = all_digits-decimal 19 (unsigned_abs v);
  short = omega (arith, length-decimal 19 (unsigned_abs v));
  amount = sym (ap (λ n. with_sign (is_minus v) n) (number-decimal 19 (unsigned_abs v) ∙ mod-eq_of_lt small) ∙ with_sign-unsigned_abs v);
  places = refl;
}

pub size_at_most_8 : (four nine : Bool) → cond {A = ℕ} four 2 (cond {A = ℕ} nine 4 8) ≤ 8
size_at_most_8 true nine = omega arith
size_at_most_8 false true = omega arith
size_at_most_8 false false = omega arith

pub binary_agrees : (form : NumForm) (bs : List ℕ) → form.digits ≤ 18 → length bs ≡ bytes.binary_length form → ((k : ℕ) → get_or bs k 0 < 256) →
    IsNumber (bytes.binary_value bs) form.scale (binary_number (read_form form) bs)
binary_agrees form bs few size each =
    let small = complement_small (length bs) (byte_number bs) (omega (arith, size_at_most_8 (leb form.digits 4) (leb form.digits 9))) (byte_number_below bs each) in
    subst (λ (v : ℤ). IsNumber v form.scale (binary_number (read_form form) bs)) (ap (twos_complement (length bs)) (sym (byte_number-is bs))) (spelled_agrees (twos_complement (length bs) (byte_number bs)) form.scale small)
