use Rattle.std.specs.Prelude.{false}
use Rattle.program_meaning.specs.Files.{close_file}
use Rattle.program_meaning.specs.Step.{disk_of}
use Rattle.program_channels.specs.Channel.{read_channel}
use Rattle.program_meaning.specs.Step as meant
use Rattle.program_meaning.specs.Step.{Calendar}
use Rattle.trial_run.proofs.Called.{told, broke}
use Rattle.trial_run.proofs.run.Run.close.Goals as goal

pub returns-in-Ok-clause-ok : goal.returns-in-Ok-clause-ok
returns-in-Ok-clause-ok c =
    told c.args.plan.now c.args.self.now c.close.new.unit
    (λ p day w. meant.call p day w (read_channel c.args.channel) (close_file (disk_of w (read_channel c.args.channel))) false)
    c.requires.run.places c.in-Ok.status c.in-Ok.ensures.ok

pub returns-in-Err-clause-err : goal.returns-in-Err-clause-err
returns-in-Err-clause-err c =
    broke c.args.plan.now c.args.self.now c.close.new.unit
    (λ p day w. meant.call p day w (read_channel c.args.channel) (close_file (disk_of w (read_channel c.args.channel))) false)
    c.requires.run.places c.in-Err.fault c.of_step.result c.of_step.ensures c.in-Err.ensures.err
