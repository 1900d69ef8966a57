-- The lines of a text, the texts that they are joined to, and the words and faults of these.
use Rattle.std.specs.Prelude.{◌≡◌, ℕ, ◌+◌, ◌-◌, Bool, true, false, not, ◌||◌, ◌==◌, nat_lt, if◌then◌else◌, List, [], ◌∷◌, ◌++◌, length, drop, replicate, Option, Some, None, option_to_list, ◌⊎◌}
use Rattle.y2k_base.specs.declared.word.FileId.{FileId}
use Rattle.y2k_base.specs.declared.word.Word.{Word}
use Rattle.fixed_format.specs.declared.fault.LineKind.TheVariants as k
use Rattle.fixed_format.specs.declared.fault.Fault.{Fault}
use Rattle.fixed_format.specs.declared.fault.LineFault.{LineFault}
use Rattle.fixed_format.specs.declared.fault.LineFault.TheVariants as f
use Rattle.fixed_format.specs.declared.runs.Placed.{Placed}
use Rattle.fixed_format.specs.declared.piece.Expected.{Expected}
use Rattle.fixed_format.specs.declared.piece.Expected.TheVariants as e
use Rattle.fixed_format.specs.declared.join.Joint.{Joint}
use Rattle.fixed_format.specs.declared.join.Joint.TheVariants as j
use Rattle.fixed_format.specs.declared.columns.LineSort.{LineSort}
use Rattle.fixed_format.specs.declared.columns.LineSort.TheVariants as s
use Rattle.fixed_format.specs.Columns.{blanks, has_area_a, body, cells, without_feed, line_sort, comment_goes_on, has_bad_indicator, lines}
use Rattle.fixed_format.specs.Faults.{named, is_before, earlier, fault_if}
use Rattle.fixed_format.specs.Words.{pieces_of, expected_behind, open_literal, words_of, faults_of}

-- a line with its number and its sort
pub record Row : Type 0 where
  pub number : ℕ
  pub sort : LineSort
  pub line : List ℕ

-- the lines behind so many others, in a comment paragraph or not
abbrev pub rows : Bool → ℕ → List (List ℕ) → List Row
rows in_comment n [] = []
rows in_comment n (line ∷ rest) =
    record { number = n + 1; sort = line_sort in_comment (body line); line = line }
    ∷ rows (comment_goes_on in_comment (line_sort in_comment (body line))) (n + 1) rest

-- bytes of a line with their places, from a column on
abbrev pub placed : ℕ → ℕ → List ℕ → List Placed
placed line column [] = []
placed line column (b ∷ bs) = record { byte = b; line = line; column = column } ∷ placed line (column + 1) bs

-- a text that lines are joined to: what is expected at its front, whether a line has begun it, its characters,
-- and the place behind them
pub record Joined : Type 0 where
  pub expected : Expected
  pub is_begun : Bool
  pub chars : List Placed
  pub line : ℕ
  pub column : ℕ

-- no line has begun a text, where this is expected at the front of the next
abbrev pub nothing_joined : Expected → Joined
nothing_joined expected = record { expected = expected; is_begun = false; chars = []; line = 0; column = 0 }

-- what is expected behind a text
abbrev pub expected_next : Joined → Expected
expected_next t = expected_behind t.expected (pieces_of t.expected t.chars)

-- the column of the cell behind so many others, at most the one behind column 72
abbrev pub column_of : ℕ → ℕ
column_of cell = if nat_lt cell 66 then 8 + cell else 73

abbrev pub with_chars : Expected → List Placed → ℕ → List ℕ → Joined
with_chars expected chars line cells =
    record { expected = expected; is_begun = true; chars = chars; line = line; column = column_of (length cells) }

-- a plain line begins a text
abbrev pub begun_by : Expected → ℕ → List ℕ → Joined
begun_by expected line cells = with_chars expected (placed line 8 cells) line cells

abbrev pub begins_with : List ℕ → ℕ → Bool
begins_with [] b = false
begins_with (c ∷ cs) b = c == b

-- where a literal is open, its mark has to stand first
abbrev pub joint_of_mark : Option ℕ → List ℕ → Joint
joint_of_mark None cells = j.AfterText
joint_of_mark (Some mark) cells = if begins_with (drop (blanks cells) cells) mark then j.InLiteral else j.Bad

-- a continuation is bad with no line before it, with text in area A, or without the mark where a literal is open
abbrev pub joint_of : Bool → Option ℕ → List ℕ → Joint
joint_of is_begun mark cells = if not is_begun || has_area_a cells then j.Bad else joint_of_mark mark cells

-- how a continuation goes on behind a text
abbrev pub joint : Joined → List ℕ → Joint
joint t cells = joint_of t.is_begun (open_literal (pieces_of t.expected t.chars)) cells

-- behind the text so far, from the first cell that is no space
abbrev pub longer : Joined → ℕ → List ℕ → Joined
longer t line cells =
    with_chars t.expected (t.chars ++ placed line (column_of (blanks cells)) (drop (blanks cells) cells)) line cells

-- spaces up to column 72
abbrev pub spaces_behind : Joined → List Placed
spaces_behind t = placed t.line t.column (replicate (73 - t.column) 32)

-- in a literal: spaces up to column 72 of the line before, and the cells behind the mark
abbrev pub longer_literal : Joined → ℕ → List ℕ → Joined
longer_literal t line cells =
    with_chars t.expected ((t.chars ++ spaces_behind t) ++ placed line (column_of (blanks cells + 1)) (drop (blanks cells + 1) cells)) line cells

-- the text behind a continuation; before a bad one it ends
abbrev pub continued_by : Joint → Joined → ℕ → List ℕ → Joined
continued_by j.Bad t line cells = nothing_joined (expected_next t)
continued_by j.InLiteral t line cells = longer_literal t line cells
continued_by j.AfterText t line cells = longer t line cells

-- the text behind a line
abbrev pub joined_by : Joined → LineSort → ℕ → List ℕ → Joined
joined_by t s.Plain number line = begun_by (expected_next t) number (cells (body line))
joined_by t s.Continuation number line = continued_by (joint t (cells (body line))) t number (cells (body line))
joined_by t s.Comment number line = t
joined_by t s.Inner number line = t
joined_by t s.Opening number line = t

-- the words of the text that ends before a continuation: before a bad one alone
abbrev pub words_before_joint : FileId → Joint → Joined → List Word
words_before_joint file j.Bad t = words_of file t.expected t.chars
words_before_joint file j.InLiteral t = []
words_before_joint file j.AfterText t = []

-- the words of the text that ends before a line
abbrev pub words_before : FileId → Joined → LineSort → List ℕ → List Word
words_before file t s.Plain line = words_of file t.expected t.chars
words_before file t s.Continuation line = words_before_joint file (joint t (cells (body line))) t
words_before file t s.Comment line = []
words_before file t s.Inner line = []
words_before file t s.Opening line = []

-- the words of all texts, of which the first is joined so far
abbrev pub row_words : FileId → Joined → List Row → List Word
row_words file t [] = words_of file t.expected t.chars
row_words file t (r ∷ rs) = words_before file t r.sort r.line ++ row_words file (joined_by t r.sort r.number r.line) rs

-- the faults of a line by itself: over 1,000 bytes, or another indicator
abbrev pub line_fault : LineSort → List ℕ → ℕ → Option Fault
line_fault sort line number =
    earlier (fault_if (nat_lt 1000 (length (without_feed line))) k.LineLong number 1)
    (fault_if (has_bad_indicator sort (body line)) k.BadByte number 7)

-- the faults of the text that ends before a bad continuation, and of that
abbrev pub faults_before_joint : Joint → Joined → ℕ → List Fault
faults_before_joint j.Bad t number = faults_of true t.expected t.chars ++ (record { kind = k.BadContinuation; line = number; column = 7 } ∷ [])
faults_before_joint j.InLiteral t number = []
faults_before_joint j.AfterText t number = []

-- the faults of the text that ends before a line
abbrev pub faults_before : Joined → LineSort → ℕ → List ℕ → List Fault
faults_before t s.Plain number line = faults_of false t.expected t.chars
faults_before t s.Continuation number line = faults_before_joint (joint t (cells (body line))) t number
faults_before t s.Comment number line = []
faults_before t s.Inner number line = []
faults_before t s.Opening number line = []

-- the faults of all lines and texts, of which the first is joined so far
abbrev pub row_faults : Joined → List Row → List Fault
row_faults t [] = faults_of false t.expected t.chars
row_faults t (r ∷ rs) =
    option_to_list (line_fault r.sort r.line r.number) ++ (faults_before t r.sort r.number r.line ++ row_faults (joined_by t r.sort r.number r.line) rs)

-- the words of lines in fixed reference format
abbrev pub words_in : FileId → List (List ℕ) → List Word
words_in file lines = row_words file (nothing_joined e.Any) (rows false 0 lines)

-- all faults of lines
abbrev pub faults_in : List (List ℕ) → List Fault
faults_in lines = row_faults (nothing_joined e.Any) (rows false 0 lines)

-- the fault is one of these
abbrev pub Has : List Fault → Fault → Type 0
Has [] fault = ⊥
Has (f ∷ fs) fault = (f ≡ fault) ⊎ Has fs fault

-- the fault is one of the lines', and none of them comes before it
abbrev pub IsFirst : List (List ℕ) → Fault → Type 0
IsFirst lines fault = Has (faults_in lines) fault × ((other : Fault) → Has (faults_in lines) other → is_before other fault ≡ false)

-- this is the first fault of a text, or memory ran out
abbrev pub IsFirstFault : FileId → List ℕ → LineFault → Type 0
IsFirstFault file text f.Memory = Unit {0}
IsFirstFault file text (f.At kind at) = (fault : Fault) × IsFirst (lines text) fault × (f.At kind at ≡ named file fault)
