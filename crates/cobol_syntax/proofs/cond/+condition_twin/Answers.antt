use Rattle.std.proofs.Common.{rules}
use Rattle.cobol_syntax.specs.declared.cond.Condition.{the_lemmas}
use Rattle.cobol_syntax.proofs.Chains.{joined_last}
use Rattle.cobol_syntax.proofs.cond.+condition_twin.Goals as goal

pub ConditionTwin::twin-loop-first-preserved-in-And : goal.ConditionTwin::twin-loop-first-preserved-in-And
ConditionTwin::twin-loop-first-preserved-in-And t c = (search (rules, the_lemmas), search (rules, joined_last))

pub ConditionTwin::twin-loop-first-preserved : goal.ConditionTwin::twin-loop-first-preserved
ConditionTwin::twin-loop-first-preserved t c = (search (rules, the_lemmas), search (rules, joined_last))
