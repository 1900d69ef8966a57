use Rattle.std.proofs.Common.{Some, IfOk, IfErr, sym, subst}
use Rattle.program_channels.specs.Channel.{read_channel}
use Rattle.program_meaning.specs.Step as meant
use Rattle.program_meaning.specs.Step.{Told}
use Rattle.seq_files.specs.Codes.{code}
use Rattle.seq_files.specs.declared.status.Status.{Status}
use Rattle.tree_reading.specs.Reading.{read_place}
use Rattle.file_statements.specs.Calls.{Tells, Breaks}
use Rattle.file_statements.specs.Units.{layout_of}
use Rattle.file_statements.proofs.moved.move_at.Goals as goal

pub returns-in-S00-clause-ok : goal.returns-in-S00-clause-ok
returns-in-S00-clause-ok c =
    subst (λ (s : Status). IfOk c.move_area.result (Tells (layout_of c.args.unit.now) c.args.unit.now c.move_area.new.unit
    (λ p day w. meant.into_place p.layout (read_channel c.args.channel) (Some (read_place c.args.place.now)) (Told (code s) w)))) (sym c.in-S00.is) c.move_area.ensures.ok

pub returns-in-S00-clause-err : goal.returns-in-S00-clause-err
returns-in-S00-clause-err c =
    subst (λ (s : Status). IfErr c.move_area.result (Breaks (layout_of c.args.unit.now) c.args.unit.now c.move_area.new.unit
    (λ p day w. meant.into_place p.layout (read_channel c.args.channel) (Some (read_place c.args.place.now)) (Told (code s) w)))) (sym c.in-S00.is) c.move_area.ensures.err
