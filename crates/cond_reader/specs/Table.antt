-- Words with values.
use Rattle.std.specs.Prelude.{ℕ, List, [], ◌∷◌, Option, Some, None, if◌then◌else◌}
use Rattle.std.specs.Str.{bytes_eq}

-- the value beside the first row with this word
abbrev pub value_of : {T : Type 0} → List (List ℕ × T) → List ℕ → Option T
value_of [] word = None
value_of (row ∷ rows) word = if bytes_eq row.0 word then Some row.1 else value_of rows word
