use Rattle.std.proofs.Common.{Option, IfOk, IfErr, sym, subst, Bor}
use Rattle.cobol_syntax.specs.declared.place.Place.{Place}
use Rattle.program_channels.specs.Channel.{status_of}
use Rattle.program_meaning.specs.Step as meant
use Rattle.seq_files.specs.Codes.{code}
use Rattle.file_statements.specs.Calls.{Tells, Breaks}
use Rattle.file_statements.specs.Units.{layout_of}
use Rattle.file_statements.proofs.told.tell.Goals as goal

pub returns-in-Some-clause-ok : goal.returns-in-Some-clause-ok
returns-in-Some-clause-ok c =
    subst (λ (x : Option (Bor Place)). IfOk c.store_status.result (Tells (layout_of c.args.unit.now) c.args.unit.now c.store_status.new.unit
    (λ p day w. meant.told p.layout (status_of x) c.args.end (code c.args.status) w))) (sym c.in-Some.is) c.store_status.ensures.ok

pub returns-in-Some-clause-err : goal.returns-in-Some-clause-err
returns-in-Some-clause-err c =
    subst (λ (x : Option (Bor Place)). IfErr c.store_status.result (Breaks (layout_of c.args.unit.now) c.args.unit.now c.store_status.new.unit
    (λ p day w. meant.told p.layout (status_of x) c.args.end (code c.args.status) w))) (sym c.in-Some.is) c.store_status.ensures.err
