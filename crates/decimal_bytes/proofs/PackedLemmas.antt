-- Packed digits and signs as they are written.
use Rattle.std.proofs.Common.{◌≡◌, ℕ, ◌+◌, ◌<◌, Bool, true, false, cond, ◌&&◌, List, Option, Some, None, ltb, refl, ap, ◌∙◌}
use Rattle.std.proofs.lemmas.Bool.{cond-true, lt-ltb}
use Rattle.decimal_bytes.specs.declared.form.NumForm.{NumForm}
use Rattle.decimal_bytes.specs.Packed.{half_byte, packed_start, packed_digit, is_minus_code}

pub packed_digit-written : (form : NumForm) (bytes : List ℕ) (k digit : ℕ) → half_byte bytes (packed_start form + k) ≡ digit → digit < 10 → packed_digit form bytes k ≡ Some digit
packed_digit-written form bytes k digit here below =
    ap (λ (h : ℕ). cond {A = Option ℕ} (ltb h 10) (Some h) None) here ∙ cond-true _ _ _ (lt-ltb digit 10 below)

pub is_minus_code-written : (signed below : Bool) → is_minus_code (cond signed (cond (signed && below) 13 12) 15) ≡ Some (signed && below)
is_minus_code-written true true = refl
is_minus_code-written true false = refl
is_minus_code-written false below = refl
