use Rattle.std.proofs.Common.{◌≡◌, ◌≤◌}
use Rattle.cobol_syntax.specs.declared.cond.Condition.{size-Condition}
use Rattle.cobol_syntax.specs.Chains.{joined}
use Rattle.cobol_syntax.proofs.cond.+condition_twin.Given as goal

abbrev pub invariant-ConditionTwin::twin-loop-first : goal.invariant-ConditionTwin::twin-loop-first
invariant-ConditionTwin::twin-loop-first l = (size-Condition l.first ≤ size-Condition l.fn.self) × (joined l.joints l.first ≡ l.fn.self)
