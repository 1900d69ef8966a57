-- Which entry is the first to cover a byte.
use Rattle.std.specs.Prelude.{ℕ, ◌-◌, ◌/◌, ◌%◌, ◌≡◌, Bool, ◌&&◌, ◌==◌, nat_le, nat_lt, List, [], ◌∷◌, ◌++◌, Option, Some, None, if◌then◌else◌}
use Rattle.y2k_base.specs.declared.place.AreaId.{AreaId}
use Rattle.y2k_base.specs.declared.place.BytePlace.{BytePlace}
use Rattle.y2k_base.specs.declared.word.Origin.{Origin}
use Rattle.y2k_base.specs.declared.word.Word.{Word}
use Rattle.cobol_syntax.specs.declared.program.Program.{Program}
use Rattle.data_layout.specs.declared.item.Item.{Item}
use Rattle.data_layout.specs.declared.item.Layout.{Layout}
use Rattle.data_layout.specs.declared.item.Step.{Step}
use Rattle.data_layout.specs.Faults.{origin_at}
use Rattle.entry_limits.specs.declared.covering.PlacedEntry.{PlacedEntry}
use Rattle.entry_limits.specs.declared.covering.AreaEntries.{AreaEntries}

-- the byte so far behind the first of a table is one of its occurrences
abbrev pub is_in_table : Step → ℕ → Bool
is_in_table step behind = nat_lt 0 step.size && nat_lt (behind / step.size) step.count

-- the byte so far behind the first of an item of so many bytes is one of an occurrence: in each table, of what is left behind
-- whole occurrences
abbrev pub is_in_occurrence : List Step → ℕ → ℕ → Bool
is_in_occurrence [] bytes behind = nat_lt behind bytes
is_in_occurrence (step ∷ steps) bytes behind = is_in_table step behind && is_in_occurrence steps bytes (behind % step.size)

-- an occurrence of the entry's item has the byte
abbrev pub covers : BytePlace → PlacedEntry → Bool
covers place entry =
    entry.span.area.0 == place.area.0
    && (nat_le entry.span.offset place.offset && is_in_occurrence entry.steps entry.span.length (place.offset - entry.span.offset))

-- the places of those entries that cover the byte
abbrev pub covering : BytePlace → List PlacedEntry → List Origin
covering place [] = []
covering place (entry ∷ entries) = if covers place entry then entry.at ∷ covering place entries else covering place entries

-- by text, then line, then column
abbrev pub stands_before : Origin → Origin → Bool
stands_before a b =
    if a.file.0 == b.file.0 then (if a.line == b.line then nat_lt a.column b.column else nat_lt a.line b.line)
    else nat_lt a.file.0 b.file.0

abbrev pub earlier : Option Origin → Origin → Origin
earlier None at = at
earlier (Some first) at = if stands_before at first then at else first

-- the first in the texts of these places, and of one that was found before
abbrev pub first_of : Option Origin → List Origin → Option Origin
first_of found [] = found
first_of found (at ∷ more) = first_of (Some (earlier found at)) more

abbrev pub first_covering : List PlacedEntry → BytePlace → Option Origin
first_covering entries place = first_of None (covering place entries)

-- The entries of an area.

abbrev pub entry_of : Origin → Item → PlacedEntry
entry_of at item = record { span = item.span; steps = item.steps; at = at }

abbrev pub entry_in : AreaId → Origin → Item → List PlacedEntry
entry_in area at item = if item.span.area.0 == area.0 then entry_of at item ∷ [] else []

abbrev pub entries_among : AreaId → List Word → List Item → List PlacedEntry
entries_among area words [] = []
entries_among area words (item ∷ items) = entry_in area (origin_at words item.entry_at) item ++ entries_among area words items

-- those of all programs, each with its layout
abbrev pub entries_of : AreaId → List Program → List Layout → List PlacedEntry
entries_of area [] layouts = []
entries_of area (program ∷ programs) [] = []
entries_of area (program ∷ programs) (layout ∷ layouts) =
    entries_among area program.words layout.items ++ entries_of area programs layouts

-- the place of the first entry in the texts, groups included, of which an occurrence has the byte
abbrev pub first_entry : List Program → List Layout → BytePlace → Option Origin
first_entry programs layouts place = first_covering (entries_of place.area programs layouts) place

-- these are the entries of their area
abbrev pub AreEntries : List Program → List Layout → AreaEntries → Type 0
AreEntries programs layouts near = near.entries ≡ entries_of near.area programs layouts
