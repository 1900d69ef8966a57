use Rattle.std.proofs.Common.{◌≡◌, Err, ap, ◌∙◌, rules}
use Rattle.program_meaning.specs.Compare.{compared}
use Rattle.program_meaning.specs.Layout.{Layout}
use Rattle.program_meaning.specs.Tree as tree
use Rattle.place_table.specs.Tables.{layout_of}
use Rattle.storage_places.specs.Held.{held}
use Rattle.tree_reading.specs.Reading.{read_expr, read_operand}
use Rattle.storage_tests.proofs.Faults.{failed-at, exits}
use Rattle.storage_tests.proofs.TreeLaws.{read-One}
use Rattle.storage_tests.proofs.compared.expr_compared.Goals as goal

pub returns-in_err-compared-in-One-clause-err : goal.returns-in_err-compared-in-One-clause-err
returns-in_err-compared-in-One-clause-err c =
    let e : c.from_residual.result ≡ Err c.in_err-compared-in-One.field-0.0 = search rules in
    let one : read_expr c.args.expr.now ≡ tree.One (read_operand c.in-One.operand) = ap read_expr c.in-One.is ∙ read-One c.in-One.operand in
    exits _ _ _ e
    (failed-at (λ (x : tree.Expr) (l : Layout). compared l (held c.args.storage.now) x) _ _ (layout_of c.args.places.now) _ one
    (λ program. c.in_err-compared-in-One.ensures.err program))
