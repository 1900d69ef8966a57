use Rattle.std.proofs.Common.{◌≡◌, ◌≤◌, drop, length}
use Rattle.name_tables.specs.Table.{held}
use Rattle.program_channels.specs.Numbers.{numbers_of_files}
use Rattle.program_channels.proofs.numbers.file_table.Given as goal

abbrev pub invariant-loop-i : goal.invariant-loop-i
invariant-loop-i l = record {
  inside : l.i ≤ length l.files;
  numbers : held l.table ≡ numbers_of_files l.i (drop l.i l.files);
}

abbrev pub decreases-loop-i : goal.decreases-loop-i
decreases-loop-i l = l.i
