-- What a table of words says of a word.
use Rattle.std.specs.Prelude.{ℕ, ◌==◌, List, [], ◌∷◌, Option, Some, None, if◌then◌else◌}
use Rattle.std.specs.Str.{bytes_eq}
use Rattle.case_tables.specs.declared.word_table.WordRole.{WordRole}
use Rattle.case_tables.specs.declared.word_table.WordRow.{WordRow}

-- the bytes before the first space
abbrev pub before_space : List ℕ → List ℕ
before_space [] = []
before_space (c ∷ cs) = if c == 32 then [] else c ∷ before_space cs

-- the word of a row, without the spaces that fill it up
abbrev pub word_of : WordRow → List ℕ
word_of row = before_space row.text

-- the role of the first row with the word, if a row has it
abbrev pub role_in : List ℕ → List WordRow → Option WordRole
role_in word [] = None
role_in word (row ∷ rows) = if bytes_eq (word_of row) word then Some row.role else role_in word rows
