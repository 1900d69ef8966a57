use Rattle.std.proofs.Common.{◌∙◌}
use Rattle.tree_reading.specs.Reading.{read_place}
use Rattle.file_statements.specs.Units.{layout_of}
use Rattle.file_statements.proofs.CallLaws.{tells-into, breaks-into}
use Rattle.file_statements.proofs.moved.move_area.Goals as goal

pub returns-in-Ok-clause-ok : goal.returns-in-Ok-clause-ok
returns-in-Ok-clause-ok c =
    tells-into (layout_of c.args.unit.now) c.args.unit.now c.move_group.new.places c.move_group.new.storage c.args.channel (read_place c.args.place.now) c.items.result.now c.requires.unit c.requires.channel
    (c.items.ensures ∙ c.in_ok-record.ensures) c.in-Ok.ensures.ok

pub returns-clause-err : goal.returns-clause-err
returns-clause-err c =
    breaks-into (layout_of c.args.unit.now) c.args.unit.now c.move_group.new.places c.move_group.new.storage c.args.channel (read_place c.args.place.now) c.items.result.now c.in-Err.fault c.step_fault.result
    c.requires.unit c.requires.channel (c.items.ensures ∙ c.in_ok-record.ensures) c.step_fault.ensures c.in-Err.ensures.stays c.in-Err.ensures.err
