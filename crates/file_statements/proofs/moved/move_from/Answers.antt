use Rattle.std.proofs.Common.{Option, OnOk, IfErr, sym, subst}
use Rattle.cobol_syntax.specs.declared.expr.Operand.{Operand}
use Rattle.layout_reading.specs.Reading.{read_span, first_area}
use Rattle.program_meaning.specs.Step as meant
use Rattle.seq_files.specs.declared.status.Status.TheVariants as status
use Rattle.tree_reading.specs.Reading.{operand_if}
use Rattle.file_statements.specs.Calls.{Tells, Breaks}
use Rattle.file_statements.specs.Units.{layout_of}
use Rattle.file_statements.proofs.moved.move_from.Goals as goal

pub returns-in-Some-clause-ok : goal.returns-in-Some-clause-ok
returns-in-Some-clause-ok c =
    subst (λ (x : Option Operand). OnOk c.move_operand.result (Tells (layout_of c.args.unit.now) c.args.unit.now c.move_operand.new.unit
    (λ p day w. meant.from_operand p day w (operand_if x) (read_span (first_area (layout_of c.args.unit.now).areas) c.args.span)) status.S00)) (sym c.in-Some.is) c.move_operand.ensures.ok

pub returns-in-Some-clause-err : goal.returns-in-Some-clause-err
returns-in-Some-clause-err c =
    subst (λ (x : Option Operand). IfErr c.move_operand.result (Breaks (layout_of c.args.unit.now) c.args.unit.now c.move_operand.new.unit
    (λ p day w. meant.from_operand p day w (operand_if x) (read_span (first_area (layout_of c.args.unit.now).areas) c.args.span)))) (sym c.in-Some.is) c.move_operand.ensures.err
