use Rattle.std.proofs.Common.{◌≡◌, true, false, Err, sym, ◌∙◌, rules}
use Rattle.program_meaning.specs.Compare.{side, compare_numbers, compare_bytes}
use Rattle.program_meaning.specs.Layout.{Layout}
use Rattle.program_meaning.specs.Storage.{Storage}
use Rattle.layout_reading.specs.Reading.{read_layout}
use Rattle.place_table.specs.Tables.{layout_of}
use Rattle.storage_places.specs.Held.{held}
use Rattle.tree_reading.specs.Reading.{read_expr}
use Rattle.storage_tests.proofs.CompareLaws.{compare-by, side-before}
use Rattle.storage_tests.proofs.Faults.{same-fault, failed-before, exits}
use Rattle.storage_tests.proofs.comparing.compare_items.Goals as goal

pub returns-in_err-order-clause-err : goal.returns-in_err-order-clause-err
returns-in_err-order-clause-err c =
    let e : c.from_residual-in_err-order.result ≡ Err c.in_err-order.field-0.0 = search rules in
    exits _ _ _ e (λ program.
    same-fault _ _ _
    (compare-by (read_layout program (layout_of c.args.places.now)) (held c.args.storage.now) (read_expr c.args.left.now) (read_expr c.args.right.now) _ _ true
    (c.in_ok-left_side.ensures.side program (held c.args.storage.now))
    (side-before (λ (l : Layout) (store : Storage). side l store (read_expr c.args.right.now)) _ _ _ c.expr_side.ensures.grown.layout c.in_ok-right_side.ensures.side program (held c.args.storage.now))
    (sym c.both_numbers.ensures ∙ c.if-both_numbers.true))
    (failed-before (λ (l : Layout). compare_numbers l (held c.args.storage.now) (read_expr c.args.left.now) (read_expr c.args.right.now)) _ _ _
    (c.expr_side-2.ensures.grown.layout ∙ c.expr_side.ensures.grown.layout) c.in_err-order.ensures.err program))

pub returns-in_err-order-2-clause-err : goal.returns-in_err-order-2-clause-err
returns-in_err-order-2-clause-err c =
    let e : c.from_residual-in_err-order-2.result ≡ Err c.in_err-order-2.field-0.0 = search rules in
    exits _ _ _ e (λ program.
    same-fault _ _ _
    (compare-by (read_layout program (layout_of c.args.places.now)) (held c.args.storage.now) (read_expr c.args.left.now) (read_expr c.args.right.now) _ _ false
    (c.in_ok-left_side.ensures.side program (held c.args.storage.now))
    (side-before (λ (l : Layout) (store : Storage). side l store (read_expr c.args.right.now)) _ _ _ c.expr_side.ensures.grown.layout c.in_ok-right_side.ensures.side program (held c.args.storage.now))
    (sym c.both_numbers.ensures ∙ c.if-both_numbers.false))
    (failed-before (λ (l : Layout). compare_bytes l (held c.args.storage.now) (read_expr c.args.left.now) (read_expr c.args.right.now)) _ _ _
    (c.expr_side-2.ensures.grown.layout ∙ c.expr_side.ensures.grown.layout) c.in_err-order-2.ensures.err program))
