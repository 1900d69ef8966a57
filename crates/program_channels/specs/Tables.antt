-- Where in a list of files those of a name and those of an area are.
use Rattle.std.specs.Prelude.{ℕ, ◌+◌, ◌==◌, List, [], ◌∷◌, map, Option, Some, None, if◌then◌else◌}
use Rattle.std.specs.Ordering.{nat_cmp}
use Rattle.std.specs.BTreeMap.{BTreeMap, get}
use Rattle.cobol_syntax.specs.declared.program.Select.{Select}
use Rattle.name_tables.specs.Table.{holds_nothing, with_value}
use Rattle.program_meaning.specs.Tree.{Name}
use Rattle.program_meaning.specs.State as state
use Rattle.tree_reading.specs.Reading.{place_if}
use Rattle.program_channels.specs.declared.channel.Channel.{Channel}

abbrev pub placed : BTreeMap ℕ ℕ → ℕ → Option ℕ
placed areas area = get nat_cmp areas area

abbrev pub places_nothing : ℕ → Option ℕ
places_nothing = λ _. None

abbrev pub with_place : (ℕ → Option ℕ) → ℕ → ℕ → ℕ → Option ℕ
with_place before area at = λ other. if area == other then Some at else before other

-- the place of the first file of each name, where the first of these has this place
abbrev pub first_named : ℕ → List Channel → List ℕ → Option ℕ
first_named at [] = holds_nothing
first_named at (c ∷ cs) = with_value (first_named (at + 1) cs) c.name.now at

-- the same of each area
abbrev pub first_placed : ℕ → List Channel → ℕ → Option ℕ
first_placed at [] = places_nothing
first_placed at (c ∷ cs) = with_place (first_placed (at + 1) cs) c.area at

-- the file of a SELECT, with the numbers that these functions give to external names and to names of FDs
abbrev pub channel_by : (Name → ℕ) → (Name → ℕ) → Select → state.Channel
channel_by file area s = record { name = s.name; file = file s.external; area = area s.name; status = place_if s.status }

abbrev pub channels_by : (Name → ℕ) → (Name → ℕ) → List Select → List state.Channel
channels_by file area ss = map (channel_by file area) ss
