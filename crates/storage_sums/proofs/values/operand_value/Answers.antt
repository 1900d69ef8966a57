use Rattle.std.proofs.Common.{sym, subst}
use Rattle.cobol_syntax.specs.declared.expr.Operand.{Operand}
use Rattle.place_table.specs.Tables.{layout_of, Failed}
use Rattle.program_meaning.specs.Arithmetic as meant
use Rattle.storage_places.specs.declared.fault.RunFault.{RunFault}
use Rattle.storage_places.specs.Held.{held}
use Rattle.tree_reading.specs.Reading.{read_operand}
use Rattle.storage_sums.proofs.FailLaws.{err_carried}
use Rattle.storage_sums.proofs.values.operand_value.Goals as goal

pub returns-in_err-number-in-Place-clause-err : goal.returns-in_err-number-in-Place-clause-err
returns-in_err-number-in-Place-clause-err c =
    let e : RunFault = c.in_err-number-in-Place.field-0.0 in
    let fails : Operand → RunFault → Type 0 = λ o e. Failed (layout_of c.args.places.now) (λ l. meant.operand_value l (held c.args.storage.now) (read_operand o)) e in
    err_carried (fails c.args.operand.now) c.from_residual.result e c.from_residual.ensures.1 (subst (λ (o : Operand). fails o e) (sym c.in-Place.is) c.in_err-number-in-Place.ensures.err)
