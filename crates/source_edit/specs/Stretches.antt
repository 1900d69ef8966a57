-- Lines with an edited word, laid anew with the lines that are joined to them.
use Rattle.std.specs.Prelude.{ℕ, ◌+◌, ◌-◌, Bool, true, false, ◌&&◌, ◌==◌, nat_lt, if◌then◌else◌, List, [], ◌∷◌, ◌++◌, length, take, drop, replicate, map, flat_map, Option, Some, None}
use Rattle.y2k_base.specs.declared.word.Word.{Word}
use Rattle.fixed_format.specs.Columns.{body, leading, is_empty}
use Rattle.line_layout.specs.Spelling.{is_tight_before, is_tight_after}
use Rattle.line_layout.specs.Layout.{laid}
use Rattle.source_edit.specs.declared.row.Placed.{Placed}
use Rattle.source_edit.specs.declared.row.Row.{Row}
use Rattle.source_edit.specs.declared.stretch.Before.{Before}
use Rattle.source_edit.specs.declared.stretch.Before.TheVariants as b
use Rattle.source_edit.specs.Lines.{has_feed, line_end, trimmed_by, without_spaces, is_gap, is_passed, filled}
use Rattle.source_edit.specs.Rows.{is_unedited, new_of, new_of_rows, is_picture, is_joined, last_of, carry_after, reach}

-- how many words stand before the first edited one
abbrev pub unedited : List Placed → ℕ
unedited ps = leading is_unedited ps

abbrev pub is_edited : Row → Bool
is_edited r = nat_lt (unedited r.words) (length r.words)

-- what a word is to the word behind it
abbrev pub before_word : Placed → Before
before_word p =
    if is_picture p.word.kind then b.Picture (p.word.origin.column - 1) (length p.word.text)
    else (if is_tight_after p.word then b.Opening else b.Other)

-- what stands before a first edited word: the last of these words, or the end of one that goes on from a line before
abbrev pub before_last : Bool → Option Placed → Before
before_last goes_on None = if goes_on then b.Other else b.Nothing
before_last goes_on (Some p) = before_word p

abbrev pub before_of : Bool → List Placed → Before
before_of goes_on ps = before_last goes_on (last_of ps)

abbrev pub begins_tight : List Word → Bool
begins_tight [] = false
begins_tight (w ∷ ws) = is_tight_before w

abbrev pub parted_by : Bool → List ℕ → List ℕ
parted_by is_parted bytes = if is_parted then bytes else bytes ++ 32 ∷ []

abbrev pub is_blank : Option ℕ → Bool
is_blank None = true
is_blank (Some b) = b == 32

abbrev pub ends_blank : List ℕ → Bool
ends_blank bytes = is_blank (last_of bytes)

-- the bytes, with a blank at their end
abbrev pub parted : List ℕ → List ℕ
parted bytes = parted_by (ends_blank bytes) bytes

-- What stays before the new words, the first of which stands close to the word before or not. It is what stood before the first
-- edited word: with a blank more where that stood close to a word that is parted from what comes, and up to the word before where
-- a mark comes that no blank stands before.
abbrev pub kept : Bool → Before → List ℕ → List ℕ
kept tight b.Nothing old = old
kept tight b.Opening old = if tight then trimmed_by is_gap old else old
kept tight (b.Picture from count) old = if tight then take from old ++ take count (drop from old) else parted old
kept tight b.Other old = if tight then trimmed_by is_gap old else parted old

-- laid lines from column 1 on, where these bytes stand before the first
abbrev pub behind : List ℕ → List (List ℕ) → List (List ℕ)
behind before [] = []
behind before (line ∷ lines) = (before ++ line) ∷ map (λ l. replicate 6 32 ++ l) lines

-- The words laid behind what stays, or from column 12 of the next line where column 72 is passed.
abbrev pub laid_behind : List ℕ → List Word → List (List ℕ)
laid_behind before words =
    if nat_lt (length before) 72 then behind before (laid (length before + 1) words)
    else before ∷ behind (replicate 11 32) (laid 12 words)

-- a new line with what the old one has from column 73 on
abbrev pub with_margin : List ℕ → List ℕ → List ℕ
with_margin old line = filled 72 line ++ drop 72 old

-- a new line with columns 1 to 6 of the old one
abbrev pub with_sequence : List ℕ → List ℕ → List ℕ
with_sequence old line = filled 6 (take 6 old) ++ drop 6 line

abbrev pub with_feed : List ℕ → List ℕ
with_feed end = if has_feed end then end else end ++ 10 ∷ []

-- a new line without spaces at its end, with its line end
abbrev pub ended : List ℕ → List ℕ → List ℕ
ended end line = without_spaces line ++ with_feed end

-- The new lines end as the old one did. The first has the old one's sequence area and what it had from column 73 on. Where the
-- first is left out, the next has these.
abbrev pub first_lines : List ℕ → List ℕ → List (List ℕ) → List ℕ
first_lines old line lines = ended (line_end old) (with_margin (body old) line) ++ flat_map (ended (line_end old)) lines

abbrev pub second_lines : List ℕ → List (List ℕ) → List ℕ
second_lines old [] = []
second_lines old (next ∷ lines) = first_lines old (with_sequence (body old) next) lines

abbrev pub new_lines : Bool → List ℕ → List (List ℕ) → List ℕ
new_lines left_out old [] = []
new_lines left_out old (line ∷ lines) = if left_out then second_lines old lines else first_lines old line lines

abbrev pub is_nothing : Before → Bool
is_nothing b.Nothing = true
is_nothing b.Opening = false
is_nothing (b.Picture from count) = false
is_nothing b.Other = false

-- no word stands on the first of the lines behind so many bytes
abbrev pub is_bare : ℕ → List (List ℕ) → Bool
is_bare n [] = true
is_bare n (line ∷ lines) = is_empty (without_spaces (drop n line))

-- the lines among these that hold no part of a word
abbrev pub passed_line : List ℕ → List ℕ
passed_line line = if is_passed line then line else []

abbrev pub passed : List Row → List ℕ
passed rows = flat_map (λ r. passed_line r.line) rows

-- a text without a line feed at its end stays so
abbrev pub closed : List ℕ → List ℕ → List ℕ
closed last lines = if has_feed last then lines else body lines ++ line_end last

abbrev pub line_or : List ℕ → Option Row → List ℕ
line_or line None = line
line_or line (Some r) = r.line

abbrev pub last_line : List ℕ → List Row → List ℕ
last_line line rows = line_or line (last_of rows)

-- The lines of words laid anew behind what stays of an old line. A line left without words is left out.
abbrev pub relaid : Before → List ℕ → List ℕ → List Word → List ℕ
relaid before old stays words =
    new_lines (is_nothing before && is_bare (length stays) (laid_behind stays words)) old (laid_behind stays words)

abbrev pub relaid_from : Before → List ℕ → List ℕ → List Word → List ℕ
relaid_from before old front words = relaid before old (kept (begins_tight words) before front) words

-- the first of these words is the first edited one; others stand before it
abbrev pub column : List Placed → ℕ
column [] = 0
column (p ∷ ps) = p.word.origin.column

-- The lines of a row from its first edited word on with the rows joined to it, then those of them that hold no part of a word.
abbrev pub stretch_with : Bool → List ℕ → List Placed → List Placed → List Row → List ℕ
stretch_with goes_on line front words joined =
    closed (last_line line joined)
    (relaid_from (before_of goes_on front) line (take (column words - 1) (body line)) (new_of words ++ new_of_rows joined) ++ passed joined)

abbrev pub stretch : Bool → Row → List Row → List ℕ
stretch goes_on r joined = stretch_with goes_on r.line (take (unedited r.words) r.words) (drop (unedited r.words) r.words) joined

abbrev pub turned_anew : ℕ → Row → List Row → ℕ → List ℕ
turned_anew carry r rs count = stretch (is_joined carry r) r (take count rs)

-- how many of the next lines are laid anew with a line: with one that has an edited word, those that are joined to it
abbrev pub covered_by : ℕ → Row → List Row → ℕ
covered_by carry r rs = if is_edited r then reach (carry_after carry r) rs else 0

-- a line without an edited word byte for byte, and one with an edited word laid anew with the lines that are joined to it
abbrev pub turned : ℕ → Row → List Row → List ℕ
turned carry r rs = if is_edited r then turned_anew carry r rs (reach (carry_after carry r) rs) else r.line

abbrev pub covered_after : ℕ → ℕ → Row → List Row → ℕ
covered_after covered carry r rs = if nat_lt 0 covered then covered - 1 else covered_by carry r rs

-- nothing of a line that was laid with one before
abbrev pub turned_after : ℕ → ℕ → Row → List Row → List ℕ
turned_after covered carry r rs = if nat_lt 0 covered then [] else turned carry r rs

-- The text of lines, of which the first so many were laid with one before them.
abbrev pub written : ℕ → ℕ → List Row → List ℕ
written covered carry [] = []
written covered carry (r ∷ rs) = turned_after covered carry r rs ++ written (covered_after covered carry r rs) (carry_after carry r) rs
