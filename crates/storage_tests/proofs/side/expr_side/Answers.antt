use Rattle.std.proofs.Common.{◌≡◌, sym, ap, subst, ◌∙◌}
use Rattle.program_meaning.specs.Compare.{side}
use Rattle.program_meaning.specs.Tree as tree
use Rattle.layout_reading.specs.Reading.{read_layout}
use Rattle.place_table.specs.Tables.{layout_of}
use Rattle.tree_reading.specs.Reading.{read_expr, read_operand}
use Rattle.storage_tests.specs.Sides.{read_side}
use Rattle.storage_tests.proofs.TreeLaws.{read-One}
use Rattle.storage_tests.proofs.side.expr_side.Goals as goal

pub returns-in_ok-side-in-One-clause-side : goal.returns-in_ok-side-in-One-clause-side
returns-in_ok-side-in-One-clause-side c =
    let one : read_expr c.args.expr.now ≡ tree.One (read_operand c.in-One.operand) = ap read_expr c.in-One.is ∙ read-One c.in-One.operand in
    λ program store.
    subst (λ (x : tree.Expr). side (read_layout program (layout_of c.args.places.now)) store x ≡ read_side c.in_ok-side-in-One.side) (sym one) (c.in_ok-side-in-One.ensures.side program store)
