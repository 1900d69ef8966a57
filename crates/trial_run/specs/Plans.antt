-- The program that is run.
use Rattle.std.specs.Prelude.{◌≡◌, ℕ, Some, map, slice_get}
use Rattle.data_layout.specs.Index.{IsReady}
use Rattle.data_layout.specs.declared.item.Item.{Item}
use Rattle.data_layout.specs.declared.item.Layout.{Layout}
use Rattle.y2k_base.specs.declared.place.Span.{Span}
use Rattle.layout_reading.specs.Numbered.{AreNumbered}
use Rattle.layout_reading.specs.Reading.{read_program, read_channels, first_area}
use Rattle.program_channels.specs.Channels.{channels_of}
use Rattle.program_channels.specs.Channels as channels
use Rattle.program_meaning.specs.State.{Program}
use Rattle.program_meaning.specs.Step.{Calendar}
use Rattle.run_control.specs.Program.{paragraphs_of}
use Rattle.storage_places.specs.Fits.{LayoutFits}
use Rattle.tree_reading.specs.Reading.{read_paragraph}
use Rattle.trial_run.specs.Answers.{read_day}
use Rattle.trial_run.specs.declared.plan.Plan.{Plan}

abbrev pub program_of : Plan → Program
program_of plan = read_program plan.files.now plan.program.now plan.layout.now

abbrev pub day_of : Plan → Calendar
day_of plan = read_day plan.day

-- what is found by names is that of the program, and its layout can be run
pub record IsPlan (plan : Plan) : Type 0 where
  pub paragraphs : map read_paragraph plan.program.now.paragraphs ≡ paragraphs_of plan.labels
  pub selected : channels_of plan.channels ≡ read_channels plan.files.now plan.program.now
  pub areas : channels.layout_of plan.channels ≡ plan.layout.now
  pub ready : IsReady plan.layout.now
  pub numbered : AreNumbered (first_area plan.layout.now.areas) plan.layout.now.areas
  pub fits : LayoutFits plan.layout.now

-- the item with this number has this span
pub record IsSpanOf (layout : Layout) (number : ℕ) (span : Span) : Type 0 where
  pub item : Item
  pub is : slice_get layout.items number ≡ Some item
  pub here : item.span ≡ span
