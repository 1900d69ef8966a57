-- The lines of a text with the words that begin on them, and which lines are joined because a word goes on from one to the next.
use Rattle.std.specs.Prelude.{ℕ, zero, suc, ◌+◌, ◌-◌, Bool, true, false, not, ◌&&◌, ◌||◌, ◌==◌, nat_lt, if◌then◌else◌, List, [], ◌∷◌, length, map, Option, Some, None, slice_get, flat_map}
use Rattle.std.specs.Option.{unwrap_or}
use Rattle.y2k_base.specs.declared.word.Origin.{Origin}
use Rattle.y2k_base.specs.declared.word.Word.{Word}
use Rattle.y2k_base.specs.declared.word.WordKind.{WordKind}
use Rattle.y2k_base.specs.declared.word.WordKind.TheVariants as kind
use Rattle.source_edit.specs.declared.row.Placed.{Placed}
use Rattle.source_edit.specs.declared.row.Row.{Row}
use Rattle.source_edit.specs.Lines.{is_passed, is_continuation, text_cell, cells_of, begins_with_separator}

-- the words that are to stand in place of the word at an origin, if it is edited
abbrev pub Changing : Type 0
Changing = Origin → Option (List Word)

abbrev pub placed : Changing → Word → Placed
placed change word = record { word = word; change = change word.origin }

-- the words at the front that begin on this line, and those behind them
abbrev pub on_line : ℕ → List Word → List Word
on_line n [] = []
on_line n (w ∷ ws) = if w.origin.line == n then w ∷ on_line n ws else []

abbrev pub behind_line : ℕ → List Word → List Word
behind_line n [] = []
behind_line n (w ∷ ws) = if w.origin.line == n then behind_line n ws else w ∷ ws

-- the lines from this number on, each with its words
abbrev pub rows_from : Changing → ℕ → List (List ℕ) → List Word → List Row
rows_from change n [] words = []
rows_from change n (line ∷ lines) words =
    record { line = line; words = map (placed change) (on_line n words) } ∷ rows_from change (n + 1) lines (behind_line n words)

-- the words that none of the lines has
abbrev pub left_over : ℕ → List (List ℕ) → List Word → List Word
left_over n [] words = words
left_over n (line ∷ lines) words = left_over (n + 1) lines (behind_line n words)

-- the word has other words in its place
abbrev pub is_some : Option (List Word) → Bool
is_some None = false
is_some (Some words) = true

abbrev pub is_unedited : Placed → Bool
is_unedited p = not (is_some p.change)

-- the words that stand in the place of a word: its new ones, or itself
abbrev pub gives : Placed → List Word
gives p = unwrap_or p.change (p.word ∷ [])

abbrev pub new_of : List Placed → List Word
new_of ps = flat_map gives ps

abbrev pub new_of_rows : List Row → List Word
new_of_rows rows = flat_map (λ r. new_of r.words) rows

abbrev pub is_picture : WordKind → Bool
is_picture kind.Picture = true
is_picture kind.Name = false
is_picture kind.Number = false
is_picture kind.Literal = false
is_picture kind.Mark = false

-- the cell of a word on its line
abbrev pub cell : Placed → ℕ
cell p = p.word.origin.column - 8

-- a word begins where the text of the line begins
abbrev pub begins_word : List ℕ → List Placed → Bool
begins_word line [] = false
begins_word line (p ∷ ps) = cell p == text_cell line

-- A word goes on from a line before to this one, where so many characters of a PICTURE word are still to come: its first
-- character begins no word, and is no comma or semicolon that parts words.
abbrev pub is_joined : ℕ → Row → Bool
is_joined carry r = is_continuation r.line && (not (begins_word r.line r.words) && (nat_lt 0 carry || not (begins_with_separator r.line)))

abbrev pub last_of : {A : Type 0} → List A → Option A
last_of xs = slice_get xs (length xs - 1)

-- how many characters of a word are still to come behind its line: of a PICTURE word alone
abbrev pub carried_by : List ℕ → Placed → ℕ
carried_by line p = if is_picture p.word.kind then length p.word.text - (length (cells_of line) - cell p) else 0

abbrev pub carried : ℕ → List ℕ → Option Placed → ℕ
carried carry line None = carry - (length (cells_of line) - text_cell line)
carried carry line (Some p) = carried_by line p

-- how many characters of a PICTURE word that goes on are still to come behind a line
abbrev pub carry_after : ℕ → Row → ℕ
carry_after carry r = carried carry r.line (last_of r.words)

abbrev pub one_more : ℕ → ℕ
one_more zero = zero
one_more (suc n) = suc (suc n)

-- How many of the lines go with the line before them: those up to the last one on which a word goes on.
abbrev pub reach : ℕ → List Row → ℕ
reach carry [] = 0
reach carry (r ∷ rs) =
    if is_joined carry r then suc (reach (carry_after carry r) rs)
    else (if is_passed r.line then one_more (reach carry rs) else 0)
