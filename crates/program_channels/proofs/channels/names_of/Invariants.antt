use Rattle.std.proofs.Common.{◌≡◌, ◌≤◌, drop, length}
use Rattle.name_tables.specs.Table.{held}
use Rattle.program_channels.specs.Tables.{first_named}
use Rattle.program_channels.proofs.channels.names_of.Given as goal

abbrev pub invariant-loop-i : goal.invariant-loop-i
invariant-loop-i l = record {
  inside : l.i ≤ length l.list;
  names : held l.names ≡ first_named l.i (drop l.i l.list);
}

abbrev pub decreases-loop-i : goal.decreases-loop-i
decreases-loop-i l = l.i
