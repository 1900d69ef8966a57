-- What calls on files tell.
use Rattle.std.specs.Prelude.{◌≡◌, [], ◌∷◌, Some}
use Rattle.layout_reading.specs.Reading.{read_span, first_area}
use Rattle.program_meaning.specs.Layout as layout
use Rattle.program_meaning.specs.Layout.{item_of}
use Rattle.program_meaning.specs.State.{Program, World}
use Rattle.program_meaning.specs.Step.{Calendar, Called, Told, Broken}
use Rattle.program_meaning.specs.Tree.{Name}
use Rattle.seq_files.specs.Codes.{code}
use Rattle.seq_files.specs.declared.status.Status.{Status}
use Rattle.y2k_base.specs.declared.place.Span.{Span}
use Rattle.trial_run.specs.Answers.{read_kind}
use Rattle.trial_run.specs.Plans.{program_of, day_of}
use Rattle.trial_run.specs.Runs.{world_of}
use Rattle.trial_run.specs.declared.halt.Halt.{Halt}
use Rattle.trial_run.specs.declared.halt.Halt.TheVariants as halt
use Rattle.trial_run.specs.declared.plan.Plan.{Plan}
use Rattle.trial_run.specs.declared.run.Run.{Run}

-- a call and what it does, before its statement goes on
abbrev pub Call : Type 0
Call = Program → Calendar → World → Called

abbrev pub called : Plan → Run → Call → Called
called plan run call = call (program_of plan) (day_of plan) (world_of run)

-- it tells this status, with the world as it is now
abbrev pub Tells : Plan → Run → Run → Call → Status → Type 0
Tells plan old new call status = called plan old call ≡ Told (code status) (world_of new)

-- it breaks off by this fault, with the world as it is now; after want of memory nothing is said
abbrev pub Breaks : World → Called → Halt → Type 0
Breaks w c (halt.Fault kind) = c ≡ Broken (read_kind kind) w
Breaks w c halt.Memory = Unit {0}

abbrev pub BreaksOff : Plan → Run → Run → Call → Halt → Type 0
BreaksOff plan old new call h = Breaks (world_of new) (called plan old call) h

-- a name means a record that has this span
pub record IsRecord (plan : Plan) (name : Name) (span : Span) : Type 0 where
  pub item : layout.Item
  pub means : item_of (program_of plan).layout (name ∷ []) ≡ Some item
  pub here : item.span ≡ read_span (first_area plan.layout.now.areas) span
