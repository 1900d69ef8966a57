-- Files with an index of their external names, which gives each its place.
use Rattle.std.specs.Prelude.{◌≡◌, ℕ, zero, suc, List, [], ◌∷◌, map, Option, Some, None, option_map, if◌then◌else◌}
use Rattle.std.specs.Str.{bytes_eq}
use Rattle.data_layout.specs.declared.portfolio.FileArea.{FileArea}
use Rattle.data_layout.specs.declared.portfolio.FileUse.{FileUse}
use Rattle.file_uses.specs.Records.{with_place}
use Rattle.file_uses.specs.declared.table.FileTable.{FileTable}

abbrev pub file_name : FileUse → List ℕ
file_name f = f.external

abbrev pub IsTable : FileTable → Type 0
IsTable table = map (λ k. k.items) table.names.keys ≡ map file_name table.files.items

-- where the file of an external name stands
abbrev pub index_of : List FileUse → List ℕ → Option ℕ
index_of [] external = None
index_of (f ∷ fs) external = if bytes_eq external f.external then Some 0 else option_map suc (index_of fs external)

-- a file has one more record area
abbrev pub added_at : List FileUse → ℕ → FileArea → List FileUse
added_at [] index place = []
added_at (f ∷ fs) zero place = with_place f place ∷ fs
added_at (f ∷ fs) (suc index) place = f ∷ added_at fs index place
