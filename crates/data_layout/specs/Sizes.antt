-- How many bytes items have: a group has those of its parts that redefine nothing, each as often as it occurs.
use Rattle.std.specs.Prelude.{ℕ, ◌+◌, ◌*◌, Bool, ◌||◌, ◌==◌, Option, Some, None, if◌then◌else◌, is_some}
use Rattle.y2k_base.specs.declared.picture.Picture.{Picture}
use Rattle.cobol_syntax.specs.declared.program.Entry.{Entry}
use Rattle.data_layout.specs.Tree.{Forest, nothing, node}
use Rattle.data_layout.specs.Number.{item_bytes}

abbrev pub is_named : Entry → Bool
is_named e = e.level == 88

-- how often an item occurs
abbrev pub times : Option ℕ → ℕ
times None = 1
times (Some n) = n

-- the bytes of one occurrence, where those of its parts are so many
abbrev pub once : Option Picture → Entry → ℕ → ℕ
once None e of_parts = of_parts
once (Some picture) e of_parts = item_bytes e.usage e.sign picture.runs

-- the bytes of all occurrences
abbrev pub bytes_of : Entry → ℕ → ℕ
bytes_of e of_parts = once e.picture e of_parts * times e.occurs

-- what an entry adds to the bytes of its group: a redefinition and a condition-name add none
abbrev pub adds : Entry → ℕ → ℕ
adds e of_parts = if is_named e || is_some e.redefines then 0 else bytes_of e of_parts

-- the bytes of entries side by side
abbrev pub total : Forest → ℕ
total nothing = 0
total (node e parts next) = adds e (total parts) + total next

-- the bytes of one occurrence, and of all, of an entry with its parts
abbrev pub size : Entry → Forest → ℕ
size e parts = once e.picture e (total parts)

abbrev pub whole : Entry → Forest → ℕ
whole e parts = bytes_of e (total parts)
