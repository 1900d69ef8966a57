-- A file of a program as the meaning of programs has it.
use Rattle.std.specs.Prelude.{◌≡◌, ◌+◌, List, map, slice_index_or, Option, Some, None}
use denote.Ref.{Bor}
use Rattle.cobol_syntax.specs.declared.place.Place.{Place}
use Rattle.data_layout.specs.declared.item.Area.{Area}
use Rattle.program_meaning.specs.Tree as tree
use Rattle.program_meaning.specs.State as state
use Rattle.tree_reading.specs.Reading.{read_place}
use Rattle.layout_reading.specs.Reading.{first_area, read_area}
use Rattle.program_channels.specs.declared.channel.Channel.{Channel}

abbrev pub status_of : Option (Bor Place) → Option tree.Place
status_of None = None
status_of (Some place) = Some (read_place place.now)

abbrev pub read_channel : Channel → state.Channel
read_channel c = record { name = c.name.now; file = c.file; area = c.area; status = status_of c.status }

-- its span has all bytes of its area
pub record IsWhole (areas : List Area) (c : Channel) : Type 0 where
  pub number : c.span.area.0 ≡ first_area areas + c.area
  pub start : c.span.offset ≡ 0
  pub bytes : c.span.length ≡ slice_index_or (map read_area areas) c.area 0
