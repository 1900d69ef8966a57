use Rattle.std.proofs.Common.{rules}
use Rattle.cobol_syntax.specs.declared.expr.Expr.{the_lemmas}
use Rattle.cobol_syntax.proofs.Chains.{operated_last}
use Rattle.cobol_syntax.proofs.expr.+expr_twin.Goals as goal

pub ExprTwin::twin-loop-first-preserved-in-Add : goal.ExprTwin::twin-loop-first-preserved-in-Add
ExprTwin::twin-loop-first-preserved-in-Add t c = (search (rules, the_lemmas), search (rules, operated_last))

pub ExprTwin::twin-loop-first-preserved-in-Sub : goal.ExprTwin::twin-loop-first-preserved-in-Sub
ExprTwin::twin-loop-first-preserved-in-Sub t c = (search (rules, the_lemmas), search (rules, operated_last))

pub ExprTwin::twin-loop-first-preserved-in-Mul : goal.ExprTwin::twin-loop-first-preserved-in-Mul
ExprTwin::twin-loop-first-preserved-in-Mul t c = (search (rules, the_lemmas), search (rules, operated_last))

pub ExprTwin::twin-loop-first-preserved : goal.ExprTwin::twin-loop-first-preserved
ExprTwin::twin-loop-first-preserved t c = (search (rules, the_lemmas), search (rules, operated_last))
