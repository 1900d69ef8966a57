-- The files of a program as the meaning of programs has them.
use Rattle.std.specs.Prelude.{◌≡◌, List, length, map}
use Rattle.data_layout.specs.declared.item.Layout.{Layout}
use Rattle.program_meaning.specs.State as state
use Rattle.program_meaning.specs.State.{World}
use Rattle.program_meaning.specs.Step.{record_span}
use Rattle.layout_reading.specs.Reading.{first_area, read_area, read_span}
use Rattle.program_channels.specs.declared.channel.Channel.{Channel}
use Rattle.program_channels.specs.declared.channels.Channels.{Channels}
use Rattle.program_channels.specs.Channel.{read_channel, IsWhole}

-- all files, in the order of their SELECTs
abbrev pub channels_of : Channels → List state.Channel
channels_of channels = map read_channel channels.list.items

abbrev pub layout_of : Channels → Layout
layout_of channels = channels.layout.now

-- its span is the whole of its record area, also in each world that has the areas of the layout
pub record HasRecord (l : Layout) (c : Channel) : Type 0 where
  pub whole : IsWhole l.areas c
  pub meant : (w : World) → map length w.storage ≡ map read_area l.areas → record_span w (read_channel c) ≡ read_span (first_area l.areas) c.span
