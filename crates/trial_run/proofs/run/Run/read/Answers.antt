use Rattle.tree_reading.specs.Reading.{place_if}
use Rattle.program_channels.specs.Channel.{read_channel}
use Rattle.program_meaning.specs.Step as meant
use Rattle.program_meaning.specs.Step.{Calendar}
use Rattle.trial_run.proofs.Called.{told, broke}
use Rattle.trial_run.proofs.run.Run.read.Goals as goal

pub returns-in-Ok-clause-ok : goal.returns-in-Ok-clause-ok
returns-in-Ok-clause-ok c =
    told c.args.plan.now c.args.self.now c.read.new.unit
    (λ p day w. meant.read_record p day w (place_if c.args.into.now) c.args.end (read_channel c.args.channel))
    c.requires.run.places c.in-Ok.status c.in-Ok.ensures.ok

pub returns-in-Err-clause-err : goal.returns-in-Err-clause-err
returns-in-Err-clause-err c =
    broke c.args.plan.now c.args.self.now c.read.new.unit
    (λ p day w. meant.read_record p day w (place_if c.args.into.now) c.args.end (read_channel c.args.channel))
    c.requires.run.places c.in-Err.fault c.of_step.result c.of_step.ensures c.in-Err.ensures.err
