-- How the code goes over a joined text, piece by piece. `proofs/` ties this to the words and faults of `Words`.
use Rattle.std.specs.Prelude.{Bool, true, false, ◌&&◌, ◌||◌, if◌then◌else◌, List, [], ◌∷◌, ◌++◌, Option, Some, None}
use Rattle.y2k_base.specs.declared.word.FileId.{FileId}
use Rattle.y2k_base.specs.declared.word.Word.{Word}
use Rattle.y2k_base.specs.declared.word.WordKind.{WordKind}
use Rattle.fixed_format.specs.declared.fault.Fault.{Fault}
use Rattle.fixed_format.specs.declared.runs.Placed.{Placed}
use Rattle.fixed_format.specs.declared.piece.Sort.{Sort}
use Rattle.fixed_format.specs.declared.piece.Sort.TheVariants as s
use Rattle.fixed_format.specs.declared.piece.Piece.{Piece}
use Rattle.fixed_format.specs.declared.scan.Findings.{Findings}
use Rattle.fixed_format.specs.Columns.{is_number_byte, is_name_byte}
use Rattle.fixed_format.specs.Runs.{first_byte, behind}
use Rattle.fixed_format.specs.Faults.{earlier}
use Rattle.fixed_format.specs.Words.{Part, is_gap, is_literal, word_kind, word_text, word_of, bad_byte, front_fault, part_faults, earliest, pieces_of, expected_behind, words_of, faults_of}

-- a number that begins with a digit stands first
abbrev pub begins_digits : Sort → List Placed → Bool
begins_digits s.Number cs = is_number_byte (first_byte cs)
begins_digits s.Blank cs = false
begins_digits s.Name cs = false
begins_digits s.Literal cs = false
begins_digits s.OpenLiteral cs = false
begins_digits s.Picture cs = false
begins_digits s.Mark cs = false
begins_digits s.Foreign cs = false

-- these are letters, digits and hyphens
abbrev pub are_run : List Placed → Bool
are_run [] = true
are_run (c ∷ cs) = if is_name_byte c.byte then are_run cs else false

-- the run behind a piece of these characters is known to have no letter, where the run that stands first is or not
abbrev pub stays_unlettered : Bool → Piece → List Placed → List Placed → Bool
stays_unlettered unlettered piece rest own = (unlettered || begins_digits piece.sort rest) && are_run own

-- this character is a gap
abbrev pub gap_at : Option Placed → Bool
gap_at None = false
gap_at (Some c) = is_gap c.byte

abbrev pub may_be_bad : Sort → Bool
may_be_bad s.Literal = true
may_be_bad s.OpenLiteral = true
may_be_bad s.Picture = true
may_be_bad s.Foreign = true
may_be_bad s.Blank = false
may_be_bad s.Name = false
may_be_bad s.Number = false
may_be_bad s.Mark = false

-- the first bad byte and one known before
abbrev pub first_bad : Option Fault → Sort → List Placed → Option Fault
first_bad known sort [] = known
first_bad known sort (c ∷ cs) = first_bad (earlier known (bad_byte sort c)) sort cs

-- the first fault of a piece and one known before
abbrev pub part_fault : Option Fault → Sort → List Placed → Bool → Option Fault
part_fault known sort cs is_cut =
    if may_be_bad sort then first_bad (earlier known (front_fault sort cs is_cut)) sort (behind cs) else earlier known (front_fault sort cs is_cut)

abbrev pub with_kind : FileId → List Word → WordKind → Bool → List Placed → List Word
with_kind file words kind of_literal [] = words
with_kind file words kind of_literal (c ∷ cs) =
    words ++ (record { text = word_text of_literal c.byte (c ∷ cs); kind = kind; origin = record { file = file; line = c.line; column = c.column } } ∷ [])

abbrev pub with_kind_of : FileId → List Word → Option WordKind → Bool → List Placed → List Word
with_kind_of file words None of_literal cs = words
with_kind_of file words (Some kind) of_literal cs = with_kind file words kind of_literal cs

abbrev pub with_word : FileId → List Word → Sort → List Placed → List Word
with_word file words sort cs = with_kind_of file words (word_kind sort) (is_literal sort) cs

abbrev pub with_piece : FileId → Findings → Piece → List Placed → Bool → Findings
with_piece file found piece cs is_cut = record {
  words = with_word file found.words piece.sort cs;
  fault = part_fault found.fault piece.sort cs is_cut;
  expected = piece.after;
}

-- with the word and the faults of a piece
abbrev pub with_part : FileId → Bool → Findings → Part → Findings
with_part file is_cut found part = record {
  words = found.words ++ word_of file part;
  fault = earliest found.fault (part_faults is_cut part);
  expected = part.after;
}

abbrev pub read_parts : FileId → Bool → Findings → List Part → Findings
read_parts file is_cut found [] = found
read_parts file is_cut found (p ∷ ps) = read_parts file is_cut (with_part file is_cut found p) ps

-- with the words and the faults of a joined text, and what is expected behind it
abbrev pub read_text : FileId → Bool → Findings → List Placed → Findings
read_text file is_cut found cs = record {
  words = found.words ++ words_of file found.expected cs;
  fault = earliest found.fault (faults_of is_cut found.expected cs);
  expected = expected_behind found.expected (pieces_of found.expected cs);
}
