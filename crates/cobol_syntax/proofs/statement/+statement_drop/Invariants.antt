use Rattle.std.proofs.Common.{◌≤◌}
use Rattle.cobol_syntax.proofs.Chains.{depth}
use Rattle.cobol_syntax.proofs.statement.+statement_drop.Given as goal

abbrev pub invariant-drop_statements-loop-none : goal.invariant-drop_statements-loop-none
invariant-drop_statements-loop-none l = depth l.list ≤ depth l.fn.list

abbrev pub decreases-drop_statements-loop-none : goal.decreases-drop_statements-loop-none
decreases-drop_statements-loop-none l = depth l.list
