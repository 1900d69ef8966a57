-- The record areas of external files, and the files that they make.
use Rattle.std.specs.Prelude.{ℕ, ◌+◌, Bool, true, ◌==◌, List, [], ◌∷◌, ◌++◌, Option, Some, None, if◌then◌else◌}
use Rattle.std.specs.Option.{option_map_or}
use Rattle.std.specs.Str.{bytes_eq}
use Rattle.cobol_syntax.specs.declared.program.Program.{Program}
use Rattle.cobol_syntax.specs.declared.program.Select.{Select}
use Rattle.data_layout.specs.declared.item.Area.{Area}
use Rattle.data_layout.specs.declared.item.Layout.{Layout}
use Rattle.data_layout.specs.declared.portfolio.FileArea.{FileArea}
use Rattle.data_layout.specs.declared.portfolio.FileUse.{FileUse}
use Rattle.name_tables.specs.Table.{holds_nothing, with_value}
use Rattle.file_uses.specs.declared.record.FileRecord.{FileRecord}
use Rattle.file_uses.specs.declared.record.RecordArea.{RecordArea}

-- record areas by the names of their file descriptions; of several of one name the last
abbrev pub RecordAreas : Type 0
RecordAreas = List ℕ → Option RecordArea

abbrev pub with_named_area : RecordAreas → Option (List ℕ) → RecordArea → RecordAreas
with_named_area before None area = before
with_named_area before (Some name) area = with_value before name area

abbrev pub with_area : RecordAreas → Area → RecordAreas
with_area before area =
    if area.file then with_named_area before area.name (record { area = area.id; length = area.length }) else before

abbrev pub with_areas : RecordAreas → List Area → RecordAreas
with_areas before [] = before
with_areas before (area ∷ areas) = with_areas (with_area before area) areas

abbrev pub areas_in : List Area → RecordAreas
areas_in areas = with_areas holds_nothing areas

-- the record area of a file that a program selects
abbrev pub record_of : ℕ → Select → Option RecordArea → List FileRecord
record_of program s None = []
record_of program s (Some r) =
    record { external = s.external; place = record { program = program; area = r.area }; length = r.length } ∷ []

abbrev pub records_in : ℕ → RecordAreas → List Select → List FileRecord
records_in program areas [] = []
records_in program areas (s ∷ ss) = record_of program s (areas s.name) ++ records_in program areas ss

abbrev pub records_of : ℕ → Program → Layout → List FileRecord
records_of number program layout = records_in number (areas_in layout.areas) program.selects

-- the record areas of programs with their layouts, of which the first has this number
abbrev pub records_from : ℕ → List Program → List Layout → List FileRecord
records_from number [] ls = []
records_from number (p ∷ ps) [] = []
records_from number (p ∷ ps) (l ∷ ls) = records_of number p l ++ records_from (number + 1) ps ls

abbrev pub with_place : FileUse → FileArea → FileUse
with_place f place = record { external = f.external; name = f.name; length = f.length; areas = f.areas ++ place ∷ [] }

abbrev pub new_file : (List ℕ → List ℕ) → FileRecord → FileUse
new_file names r = record { external = r.external; name = names r.external; length = r.length; areas = r.place ∷ [] }

-- a record area goes to the file of its external name, which goes last where it wasn't there
abbrev pub with_record : (List ℕ → List ℕ) → List FileUse → FileRecord → List FileUse
with_record names [] r = new_file names r ∷ []
with_record names (f ∷ fs) r =
    if bytes_eq r.external f.external then with_place f r.place ∷ fs else f ∷ with_record names fs r

abbrev pub with_records : (List ℕ → List ℕ) → List FileUse → List FileRecord → List FileUse
with_records names files [] = files
with_records names files (r ∷ rs) = with_records names (with_record names files r) rs

-- the length of the records of a file, which is that where it was seen first
abbrev pub length_in : List FileUse → List ℕ → Option ℕ
length_in [] external = None
length_in (f ∷ fs) external = if bytes_eq external f.external then Some f.length else length_in fs external

abbrev pub has_length : List FileUse → FileRecord → Bool
has_length files r = option_map_or (λ n. n == r.length) (length_in files r.external) true

-- the external names of record areas with another length than that of their file
abbrev pub unlike : List FileUse → List FileRecord → List (List ℕ)
unlike files [] = []
unlike files (r ∷ rs) = (if has_length files r then [] else r.external ∷ []) ++ unlike files rs
