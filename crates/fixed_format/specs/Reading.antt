-- How the code goes over the lines of a text. `proofs/` ties this to the joined texts of `Joined`.
use Rattle.std.specs.Prelude.{ℕ, ◌+◌, ◌-◌, Bool, true, false, not, ◌&&◌, ◌==◌, if◌then◌else◌, List, [], ◌∷◌, ◌++◌, length, drop, replicate, Option, None}
use Rattle.y2k_base.specs.declared.word.FileId.{FileId}
use Rattle.fixed_format.specs.declared.fault.LineKind.TheVariants as k
use Rattle.fixed_format.specs.declared.fault.Fault.{Fault}
use Rattle.fixed_format.specs.declared.piece.Expected.{Expected}
use Rattle.fixed_format.specs.declared.piece.Expected.TheVariants as e
use Rattle.fixed_format.specs.declared.join.Joint.{Joint}
use Rattle.fixed_format.specs.declared.join.Joint.TheVariants as j
use Rattle.fixed_format.specs.declared.join.Tail.{Tail}
use Rattle.fixed_format.specs.declared.runs.Placed.{Placed}
use Rattle.fixed_format.specs.declared.columns.LineSort.{LineSort}
use Rattle.fixed_format.specs.declared.columns.LineSort.TheVariants as s
use Rattle.fixed_format.specs.declared.lines.Reading.{Reading}
use Rattle.fixed_format.specs.Columns.{blanks, body, cells, is_comment_indicator, has_area_a, begins_comment, line_sort, comment_goes_on}
use Rattle.fixed_format.specs.Faults.{earlier, fault_if}
use Rattle.fixed_format.specs.Words.{pieces_of, expected_behind, words_of, faults_of, earliest}
use Rattle.fixed_format.specs.Joined.{column_of, joint_of, line_fault}
use Rattle.fixed_format.specs.Modes.{steps, open_mark, front_mode}

-- the characters with bytes of a line from a column on behind them
abbrev pub with_chars : List Placed → List ℕ → ℕ → ℕ → List Placed
with_chars chars [] line column = chars
with_chars chars (b ∷ bs) line column = with_chars (chars ++ (record { byte = b; line = line; column = column } ∷ [])) bs line (column + 1)

-- the text with bytes of a line from a column on behind it
abbrev pub with_cells : Tail → List ℕ → ℕ → ℕ → Tail
with_cells tail cells line column = record { chars = with_chars tail.chars cells line column; known = tail.known; mode = tail.mode }

abbrev pub with_spaces : Tail → ℕ → ℕ → Tail
with_spaces tail line column = with_cells tail (replicate (73 - column) 32) line column

abbrev pub empty_tail : Expected → Tail
empty_tail expected = record { chars = []; known = 0; mode = front_mode expected }

-- where it is known how all of the characters end
abbrev pub with_mode : Tail → Tail
with_mode tail = record { chars = tail.chars; known = length tail.chars; mode = steps tail.mode (drop tail.known tail.chars) }

abbrev pub nothing_read : Reading
nothing_read = record { words = []; fault = None; expected = e.Any; is_begun = false; tail = empty_tail e.Any; line = 0; column = 0 }

abbrev pub next_expected : Reading → Expected
next_expected r = expected_behind r.expected (pieces_of r.expected r.tail.chars)

-- reads the text that was joined
abbrev pub finish : FileId → Reading → Bool → Reading
finish file r is_cut = record {
  words = r.words ++ words_of file r.expected r.tail.chars;
  fault = earliest r.fault (faults_of is_cut r.expected r.tail.chars);
  expected = next_expected r;
  is_begun = false;
  tail = empty_tail (next_expected r);
  line = 0;
  column = 0;
}

abbrev pub with_fault : Reading → Option Fault → Reading
with_fault r new = record {
  words = r.words;
  fault = earlier r.fault new;
  expected = r.expected;
  is_begun = r.is_begun;
  tail = r.tail;
  line = r.line;
  column = r.column;
}

abbrev pub with_tail : Reading → Tail → ℕ → List ℕ → Reading
with_tail r tail line cells = record {
  words = r.words;
  fault = r.fault;
  expected = r.expected;
  is_begun = true;
  tail = tail;
  line = line;
  column = column_of (length cells);
}

abbrev pub plain_line : FileId → Reading → ℕ → List ℕ → Reading
plain_line file r line cells = with_tail (finish file r false) (with_cells (finish file r false).tail cells line 8) line cells

abbrev pub text_joined : Reading → ℕ → List ℕ → Reading
text_joined r line cells = with_tail r (with_cells r.tail (drop (blanks cells) cells) line (column_of (blanks cells))) line cells

abbrev pub literal_joined : Reading → ℕ → List ℕ → Reading
literal_joined r line cells =
    with_tail r (with_cells (with_spaces r.tail r.line r.column) (drop (blanks cells + 1) cells) line (column_of (blanks cells + 1))) line cells

abbrev pub continued : Joint → FileId → Reading → ℕ → List ℕ → Reading
continued j.Bad file r line cells = with_fault (finish file r true) (fault_if true k.BadContinuation line 7)
continued j.InLiteral file r line cells = literal_joined r line cells
continued j.AfterText file r line cells = text_joined r line cells

abbrev pub with_known_mode : Reading → Reading
with_known_mode r = record {
  words = r.words;
  fault = r.fault;
  expected = r.expected;
  is_begun = r.is_begun;
  tail = with_mode r.tail;
  line = r.line;
  column = r.column;
}

abbrev pub continuation : FileId → Reading → ℕ → List ℕ → Reading
continuation file r line cells = continued (joint_of r.is_begun (open_mark (with_mode r.tail).mode) cells) file (with_known_mode r) line cells

-- what a line is by its indicator and its cells
abbrev pub sort_of : Bool → ℕ → List ℕ → LineSort
sort_of in_comment indicator cells =
    if is_comment_indicator indicator then s.Comment
    else (if in_comment && not (has_area_a cells) then s.Inner
    else (if indicator == 45 then s.Continuation
    else (if begins_comment cells then s.Opening else s.Plain)))

abbrev pub with_cells_of : FileId → Reading → LineSort → ℕ → List ℕ → Reading
with_cells_of file r s.Plain number cells = plain_line file r number cells
with_cells_of file r s.Continuation number cells = continuation file r number cells
with_cells_of file r s.Comment number cells = r
with_cells_of file r s.Inner number cells = r
with_cells_of file r s.Opening number cells = r

abbrev pub with_line : FileId → Reading → LineSort → ℕ → List ℕ → Reading
with_line file r sort number line = with_cells_of file r sort number (cells (body line))

abbrev pub read_from : FileId → Reading → Bool → ℕ → List (List ℕ) → Reading
read_from file r in_comment number [] = finish file r false
read_from file r in_comment number (line ∷ rest) =
    let sort = line_sort in_comment (body line) in
    read_from file (with_line file (with_fault r (line_fault sort line (number + 1))) sort (number + 1) line)
    (comment_goes_on in_comment sort) (number + 1) rest

abbrev pub read_all : FileId → List (List ℕ) → Reading
read_all file lines = read_from file nothing_read false 0 lines
