use Rattle.std.proofs.Common.{◌≡◌, ◌≤◌}
use Rattle.std.specs.List.{AllByRecursion}
use Rattle.cobol_syntax.specs.declared.expr.Expr.{size-Expr}
use Rattle.tree_reading.specs.Reading.{read_expr}
use Rattle.storage_sums.specs.Chains.{chained, IsBelow}
use Rattle.storage_sums.proofs.chain.chain_of.Given as goal

abbrev pub invariant-loop-rest : goal.invariant-loop-rest
invariant-loop-rest l =
    (size-Expr l.rest ≤ size-Expr l.fn.expr)
    × (chained l.terms.items (read_expr l.rest) ≡ read_expr l.fn.expr)
    × AllByRecursion (IsBelow (size-Expr l.fn.expr)) l.terms.items
