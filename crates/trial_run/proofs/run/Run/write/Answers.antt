use Rattle.std.proofs.Common.{subst}
use Rattle.data_layout.specs.declared.item.Layout.{Layout}
use Rattle.file_statements.specs.Calls as calls
use Rattle.file_statements.specs.Units.{layout_of}
use Rattle.layout_reading.specs.Reading.{read_span, first_area}
use Rattle.tree_reading.specs.Reading.{operand_if}
use Rattle.program_channels.specs.Channel.{read_channel}
use Rattle.program_meaning.specs.Step as meant
use Rattle.trial_run.specs.Calls.{Call}
use Rattle.trial_run.proofs.Called.{told, broke}
use Rattle.trial_run.proofs.run.Run.write.Goals as goal

pub returns-in-Ok-clause-ok : goal.returns-in-Ok-clause-ok
returns-in-Ok-clause-ok c =
    let call : Layout → Call = λ l p day w. meant.write_from p day (read_channel c.args.channel) (read_span (first_area l.areas) c.args.span) (meant.from_operand p day w (operand_if c.args.from.now) (read_span (first_area l.areas) c.args.span)) in
    told c.args.plan.now c.args.self.now c.write.new.unit (call c.args.plan.now.layout.now) c.requires.run.places c.in-Ok.status
    (subst (λ (l : Layout). calls.Tells (layout_of c.args.self.now.unit) c.args.self.now.unit c.write.new.unit (call l) c.in-Ok.status) c.requires.run.places c.in-Ok.ensures.ok)

pub returns-in-Err-clause-err : goal.returns-in-Err-clause-err
returns-in-Err-clause-err c =
    let call : Layout → Call = λ l p day w. meant.write_from p day (read_channel c.args.channel) (read_span (first_area l.areas) c.args.span) (meant.from_operand p day w (operand_if c.args.from.now) (read_span (first_area l.areas) c.args.span)) in
    broke c.args.plan.now c.args.self.now c.write.new.unit (call c.args.plan.now.layout.now) c.requires.run.places c.in-Err.fault c.of_step.result c.of_step.ensures
    (subst (λ (l : Layout). calls.Breaks (layout_of c.args.self.now.unit) c.args.self.now.unit c.write.new.unit (call l) c.in-Err.fault) c.requires.run.places c.in-Err.ensures.err)
