use Rattle.std.proofs.Common.{◌≡◌, List, ℕ, true, false, None, Err, sym, ap, ◌∙◌, rules}
use Rattle.std.specs.declared.cmp.Ordering.{Ordering}
use Rattle.layout_reading.specs.Reading.{read_layout}
use Rattle.program_meaning.specs.Answer.{Answer, Gives, and_then}
use Rattle.program_meaning.specs.Compare.{Compared, Whole, operand_compared, bytes_cmp}
use Rattle.program_meaning.specs.Layout.{Layout}
use Rattle.place_table.specs.Tables.{layout_of}
use Rattle.storage_places.specs.Held.{held}
use Rattle.tree_reading.specs.Reading.{read_operand}
use Rattle.storage_tests.specs.Seen.{seen, seen_bytes}
use Rattle.storage_tests.specs.Sides.{read_side, read_compared}
use Rattle.storage_tests.proofs.CompareLaws.{view-by, kind-side}
use Rattle.storage_tests.proofs.Faults.{fails-first, same-fault, meets-may, failed-before, gave-before, exits}
use Rattle.storage_tests.proofs.named.compare_view.Goals as goal

pub returns-in_err-order-clause-err : goal.returns-in_err-order-clause-err
returns-in_err-order-clause-err c =
    let e : c.from_residual-in_err-order.result ≡ Err c.in_err-order.field-0.0 = search rules in
    exits _ _ _ e (λ program.
    same-fault _ _ _
    (view-by (read_layout program (layout_of c.args.places.now)) (held c.args.storage.now) (seen c.args.storage.now c.args.view) (read_operand c.args.operand.now) _ _ true
    (kind-side c.args.view.kind None ∙ ap read_side (sym c.kind_side.ensures))
    (c.in_ok-side.ensures.side program (held c.args.storage.now))
    (sym c.both_numbers.ensures ∙ c.if-both_numbers.true))
    (meets-may _ _ (c.in_err-order.ensures.err (read_layout program (layout_of c.args.places.now)))))

pub returns-then-both_numbers-clause-ok : goal.returns-then-both_numbers-clause-ok
returns-then-both_numbers-clause-ok c = λ program.
    view-by (read_layout program (layout_of c.args.places.now)) (held c.args.storage.now) (seen c.args.storage.now c.args.view) (read_operand c.args.operand.now) _ _ true
    (kind-side c.args.view.kind None ∙ ap read_side (sym c.kind_side.ensures))
    (c.in_ok-side.ensures.side program (held c.args.storage.now))
    (sym c.both_numbers.ensures ∙ c.if-both_numbers.true)
    ∙ c.in_ok-order.ensures.ok (read_layout program (layout_of c.args.places.now))

pub returns-in_err-other-clause-err : goal.returns-in_err-other-clause-err
returns-in_err-other-clause-err c =
    let e : c.from_residual-in_err-other.result ≡ Err c.in_err-other.field-0.0 = search rules in
    exits _ _ _ e (λ program.
    same-fault _ _ _
    (view-by (read_layout program (layout_of c.args.places.now)) (held c.args.storage.now) (seen c.args.storage.now c.args.view) (read_operand c.args.operand.now) _ _ false
    (kind-side c.args.view.kind None ∙ ap read_side (sym c.kind_side.ensures))
    (c.in_ok-side.ensures.side program (held c.args.storage.now))
    (sym c.both_numbers.ensures ∙ c.if-both_numbers.false))
    (fails-first _ _ _
    (failed-before (λ (l : Layout). operand_compared l (held c.args.storage.now) (read_operand c.args.operand.now)) _ _ _ c.operand_side.ensures.grown.layout c.in_err-other.ensures.err program)))

pub returns-clause-ok : goal.returns-clause-ok
returns-clause-ok c = λ program.
    view-by (read_layout program (layout_of c.args.places.now)) (held c.args.storage.now) (seen c.args.storage.now c.args.view) (read_operand c.args.operand.now) _ _ false
    (kind-side c.args.view.kind None ∙ ap read_side (sym c.kind_side.ensures))
    (c.in_ok-side.ensures.side program (held c.args.storage.now))
    (sym c.both_numbers.ensures ∙ c.if-both_numbers.false)
    ∙ ap (λ (a : Answer Compared). and_then a (λ x. Gives (bytes_cmp (Whole (seen_bytes c.args.storage.now c.args.view)) x)))
    (gave-before (λ (l : Layout). operand_compared l (held c.args.storage.now) (read_operand c.args.operand.now)) _ _ _ c.operand_side.ensures.grown.layout c.in_ok-other.ensures.ok program)
    ∙ ap (λ (bs : List ℕ). Gives (bytes_cmp (Whole bs) (read_compared c.in_ok-other.other))) (sym c.bytes_of.ensures.bytes)
    ∙ ap (λ (o : Ordering). Gives o) (sym c.cmp_whole.ensures)
