use Rattle.file_statements.specs.Units.{layout_of}
use Rattle.program_meaning.specs.Layout.{Layout}
use Rattle.program_meaning.specs.Moves as moves
use Rattle.storage_places.specs.Held.{held}
use Rattle.tree_reading.specs.Reading.{read_operand, read_place}
use Rattle.trial_run.proofs.Halted.{of_run}
use Rattle.trial_run.proofs.unit.store.Goals as goal

pub returns-in-Err-clause-fails : goal.returns-in-Err-clause-fails
returns-in-Err-clause-fails c =
    of_run (layout_of c.args.unit.now) c.args.plan.now.layout.now c.args.plan.now.program.now
    (λ (l : Layout). moves.move l (held c.args.unit.now.storage) (read_operand c.args.from.now) (read_place c.args.to.now)) c.in-Err.fault c.of_run.result c.of_run.ensures c.requires.unit.places c.in-Err.ensures.err
