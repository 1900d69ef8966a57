-- Texts with their words edited.
use Rattle.std.specs.Prelude.{◌≡◌, ℕ, true, List, []}
use Rattle.y2k_base.specs.declared.word.FileId.{FileId}
use Rattle.y2k_base.specs.declared.word.Word.{Word}
use Rattle.fixed_format.specs.Columns.{lines}
use Rattle.fixed_format.specs.Joined.{words_in, faults_in}
use Rattle.source_edit.specs.declared.row.Row.{Row}
use Rattle.source_edit.specs.Clashes.{are_alike}
use Rattle.source_edit.specs.Rows.{Changing, rows_from, new_of_rows}
use Rattle.source_edit.specs.Stretches.{written}

-- the lines of a text with the words that begin on them
abbrev pub rows_of : Changing → FileId → List ℕ → List Row
rows_of change file text = rows_from change 1 (lines text) (words_in file (lines text))

-- the words of a text with the edited ones replaced
abbrev pub edited_words : Changing → FileId → List ℕ → List Word
edited_words change file text = new_of_rows (rows_of change file text)

-- A text without a fault: its lines without an edited word stay byte for byte, and the others are laid anew.
pub record IsEditedText (change : Changing) (file : FileId) (text new : List ℕ) : Type 0 where
  pub whole : faults_in (lines text) ≡ []
  pub laid : new ≡ written 0 0 (rows_of change file text)

-- a text without a fault has these words, up to their origins
pub record ReadsAs (file : FileId) (words : List Word) (text : List ℕ) : Type 0 where
  pub whole : faults_in (lines text) ≡ []
  pub alike : are_alike words (words_in file (lines text)) ≡ true
