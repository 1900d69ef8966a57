use Rattle.std.proofs.Common.{◌≡◌, ◌≤◌}
use Rattle.cobol_syntax.specs.declared.cond.Condition.{size-Condition}
use Rattle.tree_reading.specs.Reading.{read_condition}
use Rattle.storage_tests.specs.Joints.{joined, AreLess}
use Rattle.storage_tests.proofs.joint.descend.Given as goal

abbrev pub invariant-loop-first : goal.invariant-loop-first
invariant-loop-first l = record {
  joined : joined l.joints.items (read_condition l.first) ≡ read_condition l.fn.condition;
  less : AreLess (size-Condition l.fn.condition) l.joints.items;
  first : size-Condition l.first ≤ size-Condition l.fn.condition;
}
