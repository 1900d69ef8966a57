use Rattle.std.proofs.Common.{◌≡◌, Err, rules}
use Rattle.program_meaning.specs.Arithmetic.{value}
use Rattle.program_meaning.specs.Layout.{Layout}
use Rattle.storage_places.specs.Held.{held}
use Rattle.tree_reading.specs.Reading.{read_expr}
use Rattle.storage_tests.proofs.Faults.{fails-first, fails-then, meets-may, failed-before, gave-before, exits}
use Rattle.storage_tests.proofs.comparing.compare_numbers.Goals as goal

pub returns-in_err-left-clause-err : goal.returns-in_err-left-clause-err
returns-in_err-left-clause-err c =
    let e : c.from_residual.result ≡ Err c.in_err-left.field-0.0 = search rules in
    exits _ _ _ e (λ program. fails-first _ _ _ (c.in_err-left.ensures.err program))

pub returns-in_err-right-clause-err : goal.returns-in_err-right-clause-err
returns-in_err-right-clause-err c =
    let e : c.from_residual-in_err-right.result ≡ Err c.in_err-right.field-0.0 = search rules in
    exits _ _ _ e (λ program.
    fails-then _ _ _ _ (c.in_ok-left.ensures.ok program)
    (fails-first _ _ _ (failed-before (λ (l : Layout). value l (held c.args.storage.now) (read_expr c.args.right.now)) _ _ _ c.value.ensures.grown.layout c.in_err-right.ensures.err program)))

pub returns-in_err-order-clause-err : goal.returns-in_err-order-clause-err
returns-in_err-order-clause-err c =
    let e : c.from_residual-in_err-order.result ≡ Err c.in_err-order.field-0.0 = search rules in
    exits _ _ _ e (λ program.
    fails-then _ _ _ _ (c.in_ok-left.ensures.ok program)
    (fails-then _ _ _ _ (gave-before (λ (l : Layout). value l (held c.args.storage.now) (read_expr c.args.right.now)) _ _ _ c.value.ensures.grown.layout c.in_ok-right.ensures.ok program)
    (meets-may _ _ c.in_err-order.ensures.err)))
