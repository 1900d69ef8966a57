use Rattle.number_bytes.specs.Held.{read_form, read_scaled}
use Rattle.place_table.specs.Tables.{layout_of, Failed}
use Rattle.program_meaning.specs.Arithmetic as meant
use Rattle.storage_places.specs.declared.fault.RunFault.{RunFault}
use Rattle.storage_places.specs.Held.{held}
use Rattle.tree_reading.specs.Reading.{read_expr}
use Rattle.storage_sums.proofs.FailLaws.{fails_first, fails_then, meets_by, err_carried}
use Rattle.storage_sums.proofs.computing.simple.Goals as goal

pub returns-in_err-number-clause-err : goal.returns-in_err-number-clause-err
returns-in_err-number-clause-err c =
    let e : RunFault = c.in_err-number.field-0.0 in
    err_carried (Failed (layout_of c.args.places.now) (λ l. meant.simple_outcome l (held c.args.storage.now) c.args.how.rounded (read_form c.args.how.form) (read_expr c.args.expr.now))) c.from_residual.result e c.from_residual.ensures.1
    (λ program. fails_first _ _ e (c.in_err-number.ensures.err program))

pub returns-in_err-outcome-clause-err : goal.returns-in_err-outcome-clause-err
returns-in_err-outcome-clause-err c =
    let e : RunFault = c.in_err-outcome.field-0.0 in
    err_carried (Failed (layout_of c.args.places.now) (λ l. meant.simple_outcome l (held c.args.storage.now) c.args.how.rounded (read_form c.args.how.form) (read_expr c.args.expr.now)))
    c.from_residual-in_err-outcome.result e c.from_residual-in_err-outcome.ensures.1
    (λ program. fails_then _ _ (read_scaled c.in_ok-number.number) e (c.in_ok-number.ensures.ok program) (meets_by _ _ e c.simple_outcome.ensures c.in_err-outcome.ensures.err))
