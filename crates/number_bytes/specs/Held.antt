-- Forms, bytes and numbers of the code as the meaning of programs has them.
use Rattle.std.specs.Prelude.{◌≡◌, ℕ, true, false, cond, ◌&&◌, nat_le, nat_lt, List, length, Option, Some, None}
use Rattle.decimal_bytes.specs.declared.form.NumForm.{NumForm}
use Rattle.decimal_bytes.specs.declared.form.Scaled.{Scaled}
use Rattle.decimal_bytes.specs.Display.{display_length}
use Rattle.decimal_bytes.specs.Packed.{packed_length}
use Rattle.decimal_bytes.specs.Binary.{binary_length}
use Rattle.cobol_syntax.specs.declared.program.Usage.{Usage}
use Rattle.cobol_syntax.specs.declared.program.Usage.TheVariants.{Display, Packed, Binary}
use Rattle.byte_lists.specs.Digit.{all_digits}
use Rattle.program_meaning.specs.Number as meant
use Rattle.program_meaning.specs.Arithmetic as exact
use Rattle.tree_reading.specs.Reading.{read_sign_place}

abbrev pub read_form : NumForm → meant.NumForm
read_form form = record { digits = form.digits; scale = form.scale; signed = form.signed; sign = read_sign_place form.sign }

abbrev pub read_scaled : Scaled → exact.Scaled
read_scaled x = record { number = x.number; scale = x.scale }

-- how many bytes a number of a usage and form has
abbrev pub number_length : Usage → NumForm → ℕ
number_length Display form = display_length form
number_length Packed form = packed_length form
number_length Binary form = binary_length form

-- a sign with decimal digits is this exact number. Leading zeros and the sign of zero don't count: neither a value nor
-- what a receiver stores depends on them
pub record IsExactly (decimal : meant.Decimal) (x : Scaled) : Type 0 where
  pub digits : all_digits 0 decimal.digits ≡ true
  pub number : exact.exact decimal ≡ read_scaled x

-- there is a sign with decimal digits, and it is this number
pub record IsHeld (there : Option meant.Decimal) (x : Scaled) : Type 0 where
  pub decimal : meant.Decimal
  pub is : there ≡ Some decimal
  pub exactly : IsExactly decimal x

-- the unsigned integer that a text of 1 to 18 digits writes
abbrev pub integer_in : List ℕ → Option meant.Decimal
integer_in bs = cond (nat_lt 0 (length bs) && nat_le (length bs) 18) (meant.text_number false 0 bs) None
