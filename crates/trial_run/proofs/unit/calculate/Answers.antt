use Rattle.file_statements.specs.Units.{layout_of}
use Rattle.program_meaning.specs.Layout.{Layout}
use Rattle.program_meaning.specs.Arithmetic as sums
use Rattle.storage_places.specs.Held.{held}
use Rattle.tree_reading.specs.Reading.{read_place, read_expr, place_if}
use Rattle.trial_run.proofs.Halted.{of_run}
use Rattle.trial_run.proofs.unit.calculate.Goals as goal

pub returns-in-Err-clause-fails : goal.returns-in-Err-clause-fails
returns-in-Err-clause-fails c =
    of_run (layout_of c.args.unit.now) c.args.plan.now.layout.now c.args.plan.now.program.now
    (λ (l : Layout). sums.compute l (held c.args.unit.now.storage) (read_place c.args.to.now) c.args.rounded (read_expr c.args.expr.now) (place_if c.args.rest.now) c.args.phrase) c.in-Err.fault c.of_run.result c.of_run.ensures c.requires.unit.places c.in-Err.ensures.err
