use Rattle.std.proofs.Common.{◌≡◌, ◌≤◌, drop, length}
use Rattle.name_tables.specs.Table.{held}
use Rattle.window_items.specs.Items.{numbers_from}
use Rattle.window_items.proofs.name.numbers_of.Given as goal

abbrev pub invariant-loop-i : goal.invariant-loop-i
invariant-loop-i l = record {
  inside : l.i ≤ length l.programs;
  numbers : held l.table ≡ numbers_from l.i (drop l.i l.programs);
}

abbrev pub decreases-loop-i : goal.decreases-loop-i
decreases-loop-i l = l.i
