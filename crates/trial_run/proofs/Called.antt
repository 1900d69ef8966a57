-- What the calls on files tell of the world of a run.
use Rattle.std.specs.Prelude.{◌≡◌, ℕ, Option, Some}
use Rattle.std.proofs.Common.{ap, ◌∙◌, subst, sym}
use Rattle.data_layout.specs.declared.item.Layout.{Layout}
use Rattle.file_statements.specs.Calls as calls
use Rattle.file_statements.specs.Units as units
use Rattle.file_statements.specs.Units.{layout_of}
use Rattle.file_statements.specs.declared.fault.StepFault.{StepFault}
use Rattle.file_statements.specs.declared.fault.StepFault.TheVariants as step
use Rattle.file_statements.specs.declared.unit.RunUnit.{RunUnit}
use Rattle.layout_reading.specs.Reading.{read_program}
use Rattle.program_meaning.specs.Answer as answer
use Rattle.program_meaning.specs.Answer.{or_fault}
use Rattle.program_meaning.specs.State.{Program, Channel, World, State}
use Rattle.program_meaning.specs.Step.{Calendar, Called, Told, Broken, attempt, after_status, channel_of, for_file}
use Rattle.program_meaning.specs.Tree.{StatementId, Name}
use Rattle.seq_files.specs.Codes.{code}
use Rattle.seq_files.specs.declared.status.Status.{Status}
use Rattle.trial_run.specs.Calls.{Call, Tells, BreaksOff, called}
use Rattle.trial_run.specs.Halts.{halt_of_step}
use Rattle.trial_run.specs.Plans.{day_of}
use Rattle.trial_run.specs.Runs.{world_of, shown_of}
use Rattle.trial_run.specs.declared.halt.Halt.{Halt}
use Rattle.trial_run.specs.declared.plan.Plan.{Plan}
use Rattle.trial_run.specs.declared.run.Run.{Run}

-- the run after a change of what it works on
abbrev pub with_unit : Run → RunUnit → Run
with_unit run unit = record { position = run.position; unit = unit; shown = run.shown }

module _ (plan : Plan) (old : Run) (unit : RunUnit) (call : Call) (same : layout_of old.unit ≡ plan.layout.now) where
  pub told : (status : Status) → calls.Tells (layout_of old.unit) old.unit unit call status → Tells plan old (with_unit old unit) call status
  told status tells =
      subst (λ (l : Layout). call (read_program plan.files.now plan.program.now l) (day_of plan) (world_of old) ≡ Told (code status) (units.world_of unit (shown_of old))) same
      (tells plan.files.now plan.program.now (day_of plan) (shown_of old))

  broken : (e : answer.Fault) → calls.BreaksBy (layout_of old.unit) old.unit unit call e → called plan old call ≡ Broken e (world_of (with_unit old unit))
  broken e breaks =
      subst (λ (l : Layout). call (read_program plan.files.now plan.program.now l) (day_of plan) (world_of old) ≡ Broken e (units.world_of unit (shown_of old))) same
      (breaks plan.files.now plan.program.now (day_of plan) (shown_of old))

  by_fault : (fault : StepFault) → calls.Breaks (layout_of old.unit) old.unit unit call fault → BreaksOff plan old (with_unit old unit) call (halt_of_step fault)
  by_fault step.Data breaks = broken answer.Data breaks
  by_fault step.Range breaks = broken answer.Range breaks
  by_fault step.Zero breaks = broken answer.Zero breaks
  by_fault step.Wide breaks = broken answer.Wide breaks
  by_fault step.File breaks = broken answer.File breaks
  by_fault step.Memory breaks = breaks

  pub broke : (fault : StepFault) (h : Halt) → h ≡ halt_of_step fault → calls.Breaks (layout_of old.unit) old.unit unit call fault
      → BreaksOff plan old (with_unit old unit) call h
  broke fault h is breaks = subst (λ (x : Halt). BreaksOff plan old (with_unit old unit) call x) (sym is) (by_fault fault breaks)

module _ (program : Program) (day : Calendar) (id : StatementId) (w : World) (n : Name) (g : ℕ → World → State) where
  pub for_told : (c : Channel) (f : Channel → Called) (status : ℕ) (now : World) → channel_of n program.channels ≡ Some c → f c ≡ Told status now
      → for_file program day id w n f g ≡ g status now
  for_told c f status now found tells =
      ap (λ (o : Option Channel). attempt id w (or_fault answer.Range o) (λ c'. after_status id (f c') g)) found ∙ ap (λ (r : Called). after_status id r g) tells
