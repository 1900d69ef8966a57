-- What is left to show of a number that is edited.
use Rattle.std.specs.Prelude.{ℕ, Bool, true, false, List}
use Rattle.byte_lists.specs.Digit.{decimal}
use Rattle.program_meaning.specs.Kind.{Symbol, Nine, Zee, Comma, Show, Dash}
use Rattle.program_meaning.specs.Moves.{edited}
use Rattle.number_bytes.specs.declared.editing.Editing.{Editing}

abbrev pub shows_digit : Symbol → Bool
shows_digit Nine = true
shows_digit Zee = true
shows_digit Comma = false
shows_digit (Show byte) = false
shows_digit Dash = false

-- the bytes of the places to come
abbrev pub still_shown : Editing → List Symbol → List ℕ
still_shown e ss = edited e.minus e.shown ss (decimal e.left e.magnitude)
