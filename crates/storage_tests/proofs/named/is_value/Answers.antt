use Rattle.std.proofs.Common.{◌≡◌, Option, Err, sym, ap, ◌∙◌, rules}
use Rattle.layout_reading.specs.Reading.{read_layout}
use Rattle.program_meaning.specs.Compare.{compare_view, is_value}
use Rattle.program_meaning.specs.Layout.{Layout}
use Rattle.program_meaning.specs.Tree as tree
use Rattle.place_table.specs.Tables.{layout_of}
use Rattle.storage_places.specs.Held.{held}
use Rattle.tree_reading.specs.Reading.{read_operand, operand_if}
use Rattle.storage_tests.specs.Seen.{seen}
use Rattle.storage_tests.proofs.CompareLaws.{low-fails, high-fails}
use Rattle.storage_tests.proofs.Faults.{failed-before, failed-at, exits}
use Rattle.storage_tests.proofs.named.is_value.Goals as goal

pub returns-in_err-low-clause-err : goal.returns-in_err-low-clause-err
returns-in_err-low-clause-err c =
    let e : c.from_residual.result ≡ Err c.in_err-low.field-0.0 = search rules in
    exits _ _ _ e (λ program.
    low-fails (read_layout program (layout_of c.args.places.now)) (held c.args.storage.now) (seen c.args.storage.now c.args.view) (read_operand c.args.range.now.low) (operand_if c.args.range.now.high) _ (c.in_err-low.ensures.err program))

pub returns-in_err-high-in-Some-clause-err : goal.returns-in_err-high-in-Some-clause-err
returns-in_err-high-in-Some-clause-err c =
    let e : c.from_residual-in_err-high-in-Some.result ≡ Err c.in_err-high-in-Some.field-0.0 = search rules in
    exits _ _ _ e
    (failed-at (λ (o : Option tree.Operand) (l : Layout). is_value l (held c.args.storage.now) (seen c.args.storage.now c.args.view) (read_operand c.args.range.now.low) o) _ _
    (layout_of c.args.places.now) _ (ap operand_if c.in-Some.is) (λ program.
    high-fails (read_layout program (layout_of c.args.places.now)) (held c.args.storage.now) (seen c.args.storage.now c.args.view) (read_operand c.args.range.now.low) (read_operand c.in-Some.high) _ _
    (c.in_ok-low.ensures.ok program) (sym c.is_lt.ensures ∙ c.if-is_lt.false)
    (failed-before (λ (l : Layout). compare_view l (held c.args.storage.now) (seen c.args.storage.now c.args.view) (read_operand c.in-Some.high)) _ _ _
    c.compare_view.ensures.grown.layout c.in_err-high-in-Some.ensures.err program)))
