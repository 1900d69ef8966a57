use Rattle.std.proofs.Common.{◌≡◌, Err, rules}
use Rattle.program_meaning.specs.Compare.{compared}
use Rattle.program_meaning.specs.Layout.{Layout}
use Rattle.storage_places.specs.Held.{held}
use Rattle.tree_reading.specs.Reading.{read_expr}
use Rattle.storage_tests.proofs.Faults.{fails-first, fails-then, failed-before, exits}
use Rattle.storage_tests.proofs.comparing.compare_bytes.Goals as goal

pub returns-in_err-left-clause-err : goal.returns-in_err-left-clause-err
returns-in_err-left-clause-err c =
    let e : c.from_residual.result ≡ Err c.in_err-left.field-0.0 = search rules in
    exits _ _ _ e (λ program. fails-first _ _ _ (c.in_err-left.ensures.err program))

pub returns-in_err-right-clause-err : goal.returns-in_err-right-clause-err
returns-in_err-right-clause-err c =
    let e : c.from_residual-in_err-right.result ≡ Err c.in_err-right.field-0.0 = search rules in
    exits _ _ _ e (λ program.
    fails-then _ _ _ _ (c.in_ok-left.ensures.ok program)
    (fails-first _ _ _ (failed-before (λ (l : Layout). compared l (held c.args.storage.now) (read_expr c.args.right.now)) _ _ _ c.expr_compared.ensures.grown.layout c.in_err-right.ensures.err program)))
