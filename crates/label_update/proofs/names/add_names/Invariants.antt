use Rattle.std.proofs.Common.{◌≡◌, ◌++◌, ℕ, List, take, drop, []}
use Rattle.name_tables.specs.Table.{held}
use Rattle.label_update.specs.Names as spec
use Rattle.label_update.proofs.names.add_names.Given as goal

abbrev pub invariant-loop-i : goal.invariant-loop-i
invariant-loop-i l = record {
  names : l.names ++ spec.names_after l.program (take l.i l.areas) (drop l.i l.areas) ≡ l.fn.names ++ spec.names_after l.program [] l.areas;
  turns : (name : List ℕ) → spec.turn_in (held l.turns name) ≡ spec.count_named name (take l.i l.areas);
}
