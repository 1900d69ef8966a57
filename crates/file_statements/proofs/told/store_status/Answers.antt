use Rattle.std.proofs.Common.{pos, subst}
use Rattle.data_layout.specs.declared.item.Layout.{Layout}
use Rattle.place_table.specs.Tables.{Failed}
use Rattle.program_meaning.specs.Layout as meant
use Rattle.program_meaning.specs.Moves as moves
use Rattle.program_meaning.specs.Storage.{Storage}
use Rattle.program_meaning.specs.Tree.{Operand, Number}
use Rattle.seq_files.specs.Codes.{code}
use Rattle.storage_places.specs.Held.{held}
use Rattle.tree_reading.specs.Reading.{read_place}
use Rattle.file_statements.specs.Units.{layout_of}
use Rattle.file_statements.proofs.CallLaws.{breaks-stored}
use Rattle.file_statements.proofs.told.store_status.Goals as goal

pub returns-clause-err : goal.returns-clause-err
returns-clause-err c =
    let layout : Layout = layout_of c.args.unit.now in
    breaks-stored layout c.args.unit.now c.move_item.new.places c.move_item.new.storage (code c.args.status)
    (λ (l : meant.Layout) (st : Storage). moves.move l st (Number (pos (code c.args.status)) 0 2) (read_place c.args.item.now)) c.in-Err.fault c.step_fault.result c.step_fault.ensures c.in-Err.ensures.stays
    (subst (λ (o : Operand). Failed layout (λ (l : meant.Layout). moves.move l (held c.args.unit.now.storage) o (read_place c.args.item.now)) c.in-Err.fault) c.digits_of-digits.ensures c.in-Err.ensures.err)
