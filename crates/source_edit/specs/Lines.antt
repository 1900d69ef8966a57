-- The columns of a line, as far as they tell how lines are joined and what stays of them.
use Rattle.std.specs.Prelude.{ℕ, ◌-◌, Bool, false, not, ◌&&◌, ◌||◌, ◌==◌, if◌then◌else◌, List, [], ◌∷◌, ◌++◌, length, drop, replicate, Option, Some, None, slice_get}
use Rattle.fixed_format.specs.Columns.{body, cells, blanks, indicator, is_byte, is_empty, is_space, is_comment_indicator}

-- the line ends with a line feed
abbrev pub has_feed : List ℕ → Bool
has_feed line = is_byte 10 (slice_get line (length line - 1))

-- what stands behind the body of a line: its line feed, and a carriage return before it or at the end of the text
abbrev pub line_end : List ℕ → List ℕ
line_end line = drop (length (body line)) line

-- the items without those at their end that satisfy p
abbrev pub before_trimmed_by : (ℕ → Bool) → ℕ → List ℕ → List ℕ
before_trimmed_by p b [] = if p b then [] else b ∷ []
before_trimmed_by p b (c ∷ cs) = b ∷ c ∷ cs

abbrev pub trimmed_by : (ℕ → Bool) → List ℕ → List ℕ
trimmed_by p [] = []
trimmed_by p (b ∷ bs) = before_trimmed_by p b (trimmed_by p bs)

-- without those at their front
abbrev pub dropped_by : (ℕ → Bool) → List ℕ → List ℕ
dropped_by p [] = []
dropped_by p (b ∷ bs) = if p b then dropped_by p bs else b ∷ bs

-- without the spaces at the end
abbrev pub without_spaces : List ℕ → List ℕ
without_spaces bytes = trimmed_by is_space bytes

-- a blank, or a comma or semicolon, which are blanks where they stand between words
abbrev pub is_gap : ℕ → Bool
is_gap b = b == 32 || (b == 44 || b == 59)

abbrev pub is_separator : ℕ → Bool
is_separator b = b == 44 || b == 59

abbrev pub is_separator_at : Option ℕ → Bool
is_separator_at None = false
is_separator_at (Some b) = is_separator b

abbrev pub cells_of : List ℕ → List ℕ
cells_of line = cells (body line)

-- A line that holds no part of a word and that a word may go on behind: a comment line, or a continuation without text.
abbrev pub is_passed : List ℕ → Bool
is_passed line = is_comment_indicator (indicator (body line)) || (indicator (body line) == 45 && is_empty (cells_of line))

-- a continuation with text
abbrev pub is_continuation : List ℕ → Bool
is_continuation line = indicator (body line) == 45 && not (is_empty (cells_of line))

-- how many cells of columns 8 to 72 stand before the text of the line
abbrev pub text_cell : List ℕ → ℕ
text_cell line = blanks (cells_of line)

-- the text of the line begins with a comma or a semicolon
abbrev pub begins_with_separator : List ℕ → Bool
begins_with_separator line = is_separator_at (slice_get (cells_of line) (text_cell line))

-- with blanks up to a length
abbrev pub filled : ℕ → List ℕ → List ℕ
filled n bytes = bytes ++ replicate (n - length bytes) 32
