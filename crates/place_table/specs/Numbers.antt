-- The numbers of places by their positions.
use Rattle.std.specs.Prelude.{ℕ, Option, Some, None, slice_get}
use Rattle.place_table.specs.declared.numbers.Numbers.{Numbers}

abbrev pub number_if : Option (Option ℕ) → Option ℕ
number_if None = None
number_if (Some number) = number

abbrev pub number_at : Numbers → ℕ → Option ℕ
number_at numbers at = number_if (slice_get numbers.numbers.items at)
