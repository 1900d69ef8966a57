use Rattle.std.proofs.Common.{◌≡◌, Err, sym, ap, ◌∙◌, rules}
use Rattle.number_bytes.specs.Held.{read_scaled}
use Rattle.program_meaning.specs.Arithmetic.{Scaled}
use Rattle.program_meaning.specs.Compare.{number_cmp}
use Rattle.storage_places.specs.Held.{held}
use Rattle.tree_reading.specs.Reading.{read_operand}
use Rattle.storage_tests.proofs.CompareLaws.{view-number}
use Rattle.storage_tests.proofs.Faults.{same-meets, exits}
use Rattle.storage_tests.proofs.named.compare_number.Goals as goal

pub returns-in_err-order-clause-err : goal.returns-in_err-order-clause-err
returns-in_err-order-clause-err c =
    let e : c.from_residual-in_err-order.result ≡ Err c.in_err-order.field-0.0 = search rules in
    exits _ _ _ e (λ l.
    same-meets _ _ _
    (view-number l c.args.storage.now c.args.view (read_operand c.args.operand.now) _ c.in_ok-number.ensures.ok
    ∙ ap (λ (x : Scaled). number_cmp (read_scaled c.in_ok-number.number) x) (sym (c.constant.ensures l (held c.args.storage.now))))
    c.in_err-order.ensures.err)

pub returns-clause-ok : goal.returns-clause-ok
returns-clause-ok c = λ l.
    view-number l c.args.storage.now c.args.view (read_operand c.args.operand.now) _ c.in_ok-number.ensures.ok
    ∙ ap (λ (x : Scaled). number_cmp (read_scaled c.in_ok-number.number) x) (sym (c.constant.ensures l (held c.args.storage.now)))
    ∙ c.in_ok-order.ensures.ok
