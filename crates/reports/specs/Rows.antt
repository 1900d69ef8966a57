-- The text of rows of fields that are parted by commas.
use Rattle.std.specs.Prelude.{◌≡◌, ◌==◌, ◌||◌, ◌++◌, ◌∷◌, [], ℕ, Bool, false, List, if◌then◌else◌}
use Rattle.std.specs.List.{flat_map, list_any}
use Rattle.csv.specs.Reading.{AreRecords, default_config, strip_bom}
use Rattle.csv.specs.declared.parser.State.TheVariants as st
use Rattle.csv.specs.Writing.{default_writer, fields_written, has_written, writer_pending, writer_setup, writer_under}
use Rattle.reports.specs.declared.rows.Rows.{Rows}

abbrev pub line_feed : ℕ
line_feed = 10

abbrev pub carriage_return : ℕ
carriage_return = 13

abbrev pub quotation_mark : ℕ
quotation_mark = 34

abbrev pub comma : ℕ
comma = 44

-- a field with such a byte stands between quotation marks
abbrev pub is_special : ℕ → Bool
is_special b = (b == comma) || ((b == quotation_mark) || ((b == carriage_return) || (b == line_feed)))

-- a quotation mark in a field has another before it
abbrev pub doubled : ℕ → List ℕ
doubled b = if b == quotation_mark then quotation_mark ∷ b ∷ [] else b ∷ []

abbrev pub quoted : List ℕ → List ℕ
quoted field = quotation_mark ∷ (flat_map doubled field ++ quotation_mark ∷ [])

abbrev pub field_text : List ℕ → List ℕ
field_text field = if list_any is_special field then quoted field else field

-- each field but the first stands behind a comma
abbrev pub more_text : List (List ℕ) → List ℕ
more_text fields = flat_map (λ field. comma ∷ field_text field) fields

-- each row ends with a line feed
abbrev pub row_text : List (List ℕ) → List ℕ
row_text [] = line_feed ∷ []
row_text (field ∷ fields) = field_text field ++ (more_text fields ++ line_feed ∷ [])

abbrev pub rows_text : List (List (List ℕ)) → List ℕ
rows_text rows = flat_map row_text rows

-- a reader of CSV finds these rows in the text, and no others
abbrev pub ReadsAs : List ℕ → List (List (List ℕ)) → Type 0
ReadsAs text rows = AreRecords default_config st.StartRecord (strip_bom text) rows

-- what was written so far: what the target holds, and what waits in the buffer
abbrev pub written : Rows → List ℕ
written rows = (writer_under rows.writer).items ++ writer_pending rows.writer

-- no row is begun
pub record IsBetweenRows (rows : Rows) : Type 0 where
  pub setup : writer_setup rows.writer ≡ default_writer
  pub fields : fields_written rows.writer ≡ 0
  pub bytes : has_written rows.writer ≡ false
