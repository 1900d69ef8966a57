use Rattle.std.proofs.Common.{◌≡◌, ◌≤◌, drop, length}
use Rattle.program_channels.specs.Tables.{placed, first_placed}
use Rattle.program_channels.proofs.channels.areas_of.Given as goal

abbrev pub invariant-loop-i : goal.invariant-loop-i
invariant-loop-i l = record {
  inside : l.i ≤ length l.list;
  areas : placed l.areas ≡ first_placed l.i (drop l.i l.list);
}

abbrev pub decreases-loop-i : goal.decreases-loop-i
decreases-loop-i l = l.i
