use Rattle.std.proofs.Common.{◌≡◌, ◌+◌, ◌*◌, length}
use Rattle.std.specs.List.{AllByRecursion}
use Rattle.cobol_syntax.specs.declared.expr.Expr.{size-Expr}
use Rattle.cobol_syntax.specs.declared.program.Program.{Program}
use Rattle.layout_reading.specs.Reading.{read_layout}
use Rattle.number_bytes.specs.Held.{read_scaled}
use Rattle.place_table.specs.Tables.{layout_of}
use Rattle.place_table.specs.Views.{HasGrown}
use Rattle.program_meaning.specs.Answer.{Gives}
use Rattle.program_meaning.specs.Arithmetic as meant
use Rattle.storage_places.specs.Held.{held}
use Rattle.tree_reading.specs.Reading.{read_expr}
use Rattle.storage_sums.specs.Chains.{all_operated, IsBelow, size-Term}
use Rattle.storage_sums.proofs.values.+value.Given as goal

abbrev pub decreases-operated : goal.decreases-operated
decreases-operated l = 2 * size-Term l.term + 1

abbrev pub decreases-value : goal.decreases-value
decreases-value l = 2 * size-Expr l.expr.now

abbrev pub decreases-value-loop-term : goal.decreases-value-loop-term
decreases-value-loop-term l = length l.terms.items

abbrev pub invariant-value-loop-term : goal.invariant-value-loop-term
invariant-value-loop-term l =
    AllByRecursion (IsBelow (size-Expr l.fn.expr)) l.terms.items
    × HasGrown l.fn.places l.places
    × ((program : Program) → meant.value (read_layout program (layout_of l.fn.places)) (held l.storage) (read_expr l.fn.expr)
    ≡ all_operated (read_layout program (layout_of l.fn.places)) (held l.storage) l.terms.items (Gives (read_scaled l.number)))
