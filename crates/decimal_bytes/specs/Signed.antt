-- A magnitude with a sign, and what a form keeps of a number.
use Rattle.std.specs.Prelude.{ℕ, Bool, ℤ, pos, neg_ℤ, unsigned_abs, int_lt, Option, Some, None, ◌&&◌, if◌then◌else◌}
use Rattle.decimal_bytes.specs.declared.form.NumForm.{NumForm}

-- the number of a magnitude, below zero or not
abbrev pub with_sign : Bool → ℕ → ℤ
with_sign minus n = if minus then neg_ℤ (pos n) else pos n

-- the number of a sign and a magnitude, if both are there
abbrev pub signed_number : Option Bool → Option ℕ → Option ℤ
signed_number None n = None
signed_number (Some minus) None = None
signed_number (Some minus) (Some n) = Some (with_sign minus n)

-- what a form keeps of a number: an unsigned form takes the absolute value
abbrev pub kept : NumForm → ℤ → ℤ
kept form number = if form.signed then number else pos (unsigned_abs number)

-- whether a number is written with a minus
abbrev pub written_minus : NumForm → ℤ → Bool
written_minus form number = form.signed && int_lt number (pos 0)
