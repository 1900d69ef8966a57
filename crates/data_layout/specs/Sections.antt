-- The layout of a program: its record areas and what stands in them, then working storage.
use Rattle.std.specs.Prelude.{ℕ, ◌≡◌, ◌+◌, true, false, ◌==◌, nat_le, List, [], ◌∷◌, ◌++◌, Some, None, if◌then◌else◌, is_some}
use Rattle.y2k_base.specs.declared.place.AreaId.{AreaId}
use Rattle.cobol_syntax.specs.declared.program.Entry.{Entry}
use Rattle.cobol_syntax.specs.declared.program.FileEntry.{FileEntry}
use Rattle.cobol_syntax.specs.declared.program.Program.{Program}
use Rattle.data_layout.specs.declared.item.Item.{Item}
use Rattle.data_layout.specs.declared.item.CondItem.{CondItem}
use Rattle.data_layout.specs.declared.item.Area.{Area}
use Rattle.data_layout.specs.declared.item.Layout.{Layout}
use Rattle.data_layout.specs.declared.lay.Around.{Around}
use Rattle.data_layout.specs.declared.sections.Owners.{Owners}
use Rattle.data_layout.specs.Tree.{Forest, nothing, node, within, forest}
use Rattle.data_layout.specs.Sizes.{is_named, total, size, whole, bytes_of}
use Rattle.data_layout.specs.Items.{item_of, inside, items, conds, item_count}

-- the entries of a section
abbrev pub tops : List Entry → Forest
tops entries = within 0 (forest entries)

abbrev pub greater : ℕ → ℕ → ℕ
greater m n = if nat_le m n then n else m

abbrev pub most_with : ℕ → Entry → ℕ → ℕ
most_with most e of_parts = if is_named e then most else greater most (bytes_of e of_parts)

-- the greatest length of the items side by side, or what there was before them
abbrev pub greatest : ℕ → Forest → ℕ
greatest before nothing = before
greatest before (node e parts others) = greatest (most_with before e (total parts)) others

abbrev pub next_area : AreaId → AreaId
next_area id = record { 0 = id.0 + 1 }

-- round the records of a file, which all start at the start of its area
abbrev pub record_area : AreaId → Around
record_area id = record { area = id; parent = None; steps = []; alike = true }

abbrev pub file_area : AreaId → FileEntry → Area
file_area id file = record { id = id; name = Some file.name; file = true; length = greatest 0 (tops file.entries) }

-- the areas of files, the first with this id; their items, the first with this number; their condition-names
abbrev pub files_areas : AreaId → List FileEntry → List Area
files_areas id [] = []
files_areas id (file ∷ files) = file_area id file ∷ files_areas (next_area id) files

abbrev pub files_items : AreaId → ℕ → List FileEntry → List Item
files_items id number [] = []
files_items id number (file ∷ files) =
    items (record_area id) number 0 0 (tops file.entries)
    ++ files_items (next_area id) (number + item_count (tops file.entries)) files

abbrev pub files_conds : ℕ → List FileEntry → List CondItem
files_conds number [] = []
files_conds number (file ∷ files) =
    conds None number (tops file.entries) ++ files_conds (number + item_count (tops file.entries)) files

abbrev pub files_count : List FileEntry → ℕ
files_count [] = 0
files_count (file ∷ files) = item_count (tops file.entries) + files_count files

-- the area after those of the files
abbrev pub after_files : AreaId → List FileEntry → AreaId
after_files id [] = id
after_files id (file ∷ files) = after_files (next_area id) files

-- round an item of working storage that lies in no other
abbrev pub own_area : AreaId → Around
own_area id = record { area = id; parent = None; steps = []; alike = false }

-- whose area an item has: a redefinition that of the last item of its level that redefines nothing, any other
-- one of its own
abbrev pub area_for : Owners → Entry → AreaId
area_for owners e =
    if is_some e.redefines then (if e.level == 77 then owners.single else owners.common) else owners.next

abbrev pub next_for : Owners → Entry → AreaId
next_for owners e = if is_some e.redefines then owners.next else next_area owners.next

abbrev pub owners_after : Owners → Entry → Owners
owners_after owners e = record {
  next = next_for owners e;
  common = if e.level == 77 then owners.common else area_for owners e;
  single = if e.level == 77 then area_for owners e else owners.single;
}

abbrev pub storage_items : Owners → ℕ → Forest → List Item
storage_items owners number nothing = []
storage_items owners number (node e parts others) =
    if is_named e then storage_items owners number others
    else item_of (own_area (area_for owners e)) 0 e (size e parts) ∷
    (items (inside (own_area (area_for owners e)) number e (size e parts)) (number + 1) 0 0 parts
    ++ storage_items (owners_after owners e) (number + (1 + item_count parts)) others)

abbrev pub storage_area : AreaId → Entry → Forest → Area
storage_area id e parts = record { id = id; name = e.name; file = false; length = whole e parts }

abbrev pub own_areas : AreaId → Entry → Forest → List Area
own_areas id e parts = if is_some e.redefines then [] else storage_area id e parts ∷ []

abbrev pub storage_areas : Owners → Forest → List Area
storage_areas owners nothing = []
storage_areas owners (node e parts others) =
    if is_named e then storage_areas owners others
    else own_areas owners.next e parts ++ storage_areas (owners_after owners e) others

abbrev pub owners_from : AreaId → Owners
owners_from id = record { next = id; common = id; single = id }

-- the items, condition-names and areas of a program whose areas are numbered from this one on
abbrev pub items_of : AreaId → Program → List Item
items_of first program =
    files_items first 0 program.files
    ++ storage_items (owners_from (after_files first program.files)) (files_count program.files) (tops program.storage)

abbrev pub conds_of : Program → List CondItem
conds_of program = files_conds 0 program.files ++ conds None (files_count program.files) (tops program.storage)

abbrev pub areas_of : AreaId → Program → List Area
areas_of first program =
    files_areas first program.files ++ storage_areas (owners_from (after_files first program.files)) (tops program.storage)

pub record IsLayout (first : AreaId) (program : Program) (layout : Layout) : Type 0 where
  pub items : layout.items ≡ items_of first program
  pub conds : layout.conds ≡ conds_of program
  pub areas : layout.areas ≡ areas_of first program
