use Rattle.std.proofs.Common.{Option, IfOk, IfErr, sym, subst}
use Rattle.cobol_syntax.specs.declared.place.Place.{Place}
use Rattle.program_channels.specs.Channel.{read_channel}
use Rattle.program_meaning.specs.Step as meant
use Rattle.program_meaning.specs.Step.{Told}
use Rattle.seq_files.specs.Codes.{code}
use Rattle.tree_reading.specs.Reading.{place_if}
use Rattle.file_statements.specs.Calls.{Tells, Breaks}
use Rattle.file_statements.specs.Units.{layout_of}
use Rattle.file_statements.proofs.moved.move_into.Goals as goal

pub returns-in-Some-clause-ok : goal.returns-in-Some-clause-ok
returns-in-Some-clause-ok c =
    subst (λ (x : Option Place). IfOk c.move_at.result (Tells (layout_of c.args.unit.now) c.args.unit.now c.move_at.new.unit
    (λ p day w. meant.into_place p.layout (read_channel c.args.channel) (place_if x) (Told (code c.args.status) w)))) (sym c.in-Some.is) c.move_at.ensures.ok

pub returns-in-Some-clause-err : goal.returns-in-Some-clause-err
returns-in-Some-clause-err c =
    subst (λ (x : Option Place). IfErr c.move_at.result (Breaks (layout_of c.args.unit.now) c.args.unit.now c.move_at.new.unit
    (λ p day w. meant.into_place p.layout (read_channel c.args.channel) (place_if x) (Told (code c.args.status) w)))) (sym c.in-Some.is) c.move_at.ensures.err
