use Rattle.std.proofs.Common.{◌≡◌, length, reverse}
use Rattle.fixed_format.specs.Loops.{without_spaces}
use Rattle.fixed_format.proofs.columns.without_last_spaces.Given as goal

abbrev pub invariant-loop-cells : goal.invariant-loop-cells
invariant-loop-cells l = without_spaces (reverse l.cells) ≡ without_spaces (reverse l.fn.cells)

abbrev pub decreases-loop-cells : goal.decreases-loop-cells
decreases-loop-cells l = length l.cells
