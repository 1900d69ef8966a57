-- The names under which items and condition-names stand.
use Rattle.std.specs.Prelude.{ℕ, zero, suc, ◌==◌, ◌&&◌, List, [], ◌∷◌, ◌++◌, Option, Some, None, if◌then◌else◌, slice_get}
use Rattle.y2k_base.specs.declared.place.AreaId.{AreaId}
use Rattle.data_layout.specs.declared.item.Item.{Item}
use Rattle.data_layout.specs.declared.item.Area.{Area}
use Rattle.data_layout.specs.Find.{group_name, holder_of}
use Rattle.program_meaning.specs.Tree.{Name}

-- FILLER has a name that no word is, since 256 is no byte
abbrev pub unnamed : Name
unnamed = 256 ∷ []

abbrev pub name_or_unnamed : Option Name → Name
name_or_unnamed None = unnamed
name_or_unnamed (Some n) = n

-- a name, if there is one
abbrev pub named : Option Name → List Name
named None = []
named (Some n) = n ∷ []

-- the name of the file whose record area this is
abbrev pub file_above : List Area → AreaId → List Name
file_above [] id = []
file_above (area ∷ areas) id = if area.id.0 == id.0 && area.file then named area.name else file_above areas id

-- the names of the groups from this one outwards, at most so many, and then that of the file
abbrev pub above_from : ℕ → List Item → List Area → AreaId → Option ℕ → List Name
above_from zero items areas id holder = file_above areas id
above_from (suc more) items areas id None = file_above areas id
above_from (suc more) items areas id (Some k) =
    named (group_name (slice_get items k)) ++ above_from more items areas id (holder_of (slice_get items k))
