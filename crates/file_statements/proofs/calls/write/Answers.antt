use Rattle.std.proofs.Common.{false}
use Rattle.data_layout.specs.declared.item.Layout.{Layout}
use Rattle.layout_reading.specs.Reading.{read_span, first_area}
use Rattle.program_channels.specs.Channel.{read_channel}
use Rattle.program_meaning.specs.State as state
use Rattle.program_meaning.specs.Step as meant
use Rattle.seq_files.specs.Codes.{code}
use Rattle.tree_reading.specs.Reading.{operand_if}
use Rattle.file_statements.specs.Calls.{Breaks}
use Rattle.file_statements.specs.Units.{layout_of}
use Rattle.file_statements.proofs.CallLaws.{ok-from, err-from, unit-from, write-links, write-broken, carried}
use Rattle.file_statements.proofs.calls.write.Goals as goal

pub returns-in_err-move_from-clause-err : goal.returns-in_err-move_from-clause-err
returns-in_err-move_from-clause-err c =
    let layout : Layout = layout_of c.args.unit.now in
    let channel : state.Channel = read_channel c.args.channel in
    carried (Breaks layout c.args.unit.now c.move_from.new.unit
    (λ p day w. meant.write_from p day channel (read_span (first_area layout.areas) c.args.span) (meant.from_operand p day w (operand_if c.args.from.now) (read_span (first_area layout.areas) c.args.span))))
    c.from_residual.result c.in_err-move_from.field-0.0 c.from_residual.ensures.1
    (write-broken layout c.args.unit.now c.move_from.new.unit channel (operand_if c.args.from.now) c.args.span c.in_err-move_from.field-0.0 c.in_err-move_from.ensures.err)

pub returns-clause-ok : goal.returns-clause-ok
returns-clause-ok c =
    let layout : Layout = layout_of c.args.unit.now in
    let channel : state.Channel = read_channel c.args.channel in
    ok-from layout c.args.unit.now c.write_file.new.unit c.tell.new.unit
    (λ p day w. meant.write_from p day channel (read_span (first_area layout.areas) c.args.span) (meant.from_operand p day w (operand_if c.args.from.now) (read_span (first_area layout.areas) c.args.span)))
    (λ p day w. meant.told p.layout channel.status false (code c.in_ok-status.status) w) c.tell.result
    (unit-from layout c.move_from.new.unit c.write_file.new.unit c.move_from.ensures.unit c.write_file.ensures.unit)
    (write-links layout c.args.unit.now c.move_from.new.unit c.write_file.new.unit channel (operand_if c.args.from.now) c.args.span c.in_ok-status.status c.move_from.ensures.unit c.in_ok-move_from.ensures.ok
    c.in_ok-status.ensures.done)
    c.tell.ensures.ok

pub returns-clause-err : goal.returns-clause-err
returns-clause-err c =
    let layout : Layout = layout_of c.args.unit.now in
    let channel : state.Channel = read_channel c.args.channel in
    err-from layout c.args.unit.now c.write_file.new.unit c.tell.new.unit
    (λ p day w. meant.write_from p day channel (read_span (first_area layout.areas) c.args.span) (meant.from_operand p day w (operand_if c.args.from.now) (read_span (first_area layout.areas) c.args.span)))
    (λ p day w. meant.told p.layout channel.status false (code c.in_ok-status.status) w) c.tell.result
    (unit-from layout c.move_from.new.unit c.write_file.new.unit c.move_from.ensures.unit c.write_file.ensures.unit)
    (write-links layout c.args.unit.now c.move_from.new.unit c.write_file.new.unit channel (operand_if c.args.from.now) c.args.span c.in_ok-status.status c.move_from.ensures.unit c.in_ok-move_from.ensures.ok
    c.in_ok-status.ensures.done)
    c.tell.ensures.err
