use Rattle.layout_reading.specs.Reading.{read_span, first_area}
use Rattle.program_meaning.specs.Layout as meant
use Rattle.program_meaning.specs.Moves as moves
use Rattle.program_meaning.specs.Storage.{Storage}
use Rattle.tree_reading.specs.Reading.{read_operand}
use Rattle.file_statements.specs.Units.{layout_of}
use Rattle.file_statements.proofs.CallLaws.{breaks-stored}
use Rattle.file_statements.proofs.moved.move_operand.Goals as goal

pub returns-in-Err-clause-err : goal.returns-in-Err-clause-err
returns-in-Err-clause-err c =
    breaks-stored (layout_of c.args.unit.now) c.args.unit.now c.move_record.new.places c.move_record.new.storage 0
    (λ (l : meant.Layout) (st : Storage). moves.move_record l st (read_operand c.args.from.now) (read_span (first_area (layout_of c.args.unit.now).areas) c.args.span)) c.in-Err.fault c.step_fault.result
    c.step_fault.ensures c.in-Err.ensures.stays c.in-Err.ensures.err
