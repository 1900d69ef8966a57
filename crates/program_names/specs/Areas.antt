-- The bound on the bytes of all areas.
use Rattle.std.specs.Prelude.{ℕ, ◌+◌, Bool, ◌&&◌, ◌==◌, nat_lt, List, [], ◌∷◌, Option, Some, None, is_none, if◌then◌else◌}
use Rattle.std.specs.List.{find}
use Rattle.cobol_syntax.specs.declared.program.Program.{Program}
use Rattle.data_layout.specs.declared.item.Area.{Area}
use Rattle.data_layout.specs.declared.item.Item.{Item}
use Rattle.data_layout.specs.declared.item.Layout.{Layout}
use Rattle.program_reader.specs.declared.fault.Refused.{Refused}
use Rattle.program_reader.specs.declared.fault.RefusedKind.TheVariants as kind
use Rattle.program_names.specs.Repeats.{refusal}

abbrev pub bytes_of : List Area → ℕ
bytes_of [] = 0
bytes_of (area ∷ areas) = area.length + bytes_of areas

-- an item in no other that has all bytes of the area
abbrev pub fills : Area → Item → Bool
fills area item = is_none item.parent && (item.span.area.0 == area.id.0 && item.span.length == area.length)

abbrev pub entry_at : Option Item → ℕ
entry_at None = 0
entry_at (Some item) = item.entry_at

-- an area is refused at the entry of the first item that fills it
abbrev pub full : Program → Layout → Area → Refused
full program layout area = refusal kind.AreaFull program.words (entry_at (find (fills area) layout.items))

-- the first area with which all so far have over 4,000,000 bytes
abbrev pub faults_of_areas : Program → Layout → ℕ → List Area → List Refused
faults_of_areas program layout before [] = []
faults_of_areas program layout before (area ∷ areas) =
    if nat_lt 4000000 (before + area.length) then full program layout area ∷ []
    else faults_of_areas program layout (before + area.length) areas

abbrev pub area_faults : ℕ → Program → Layout → List Refused
area_faults before program layout = faults_of_areas program layout before layout.areas
