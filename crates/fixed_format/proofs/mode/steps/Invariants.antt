use Rattle.std.proofs.Common.{◌≡◌, length}
use Rattle.fixed_format.specs.Modes.{steps}
use Rattle.fixed_format.proofs.mode.steps.Given as goal

abbrev pub invariant-loop-rest : goal.invariant-loop-rest
invariant-loop-rest l = steps l.mode l.rest ≡ steps l.fn.mode l.chars

abbrev pub decreases-loop-rest : goal.decreases-loop-rest
decreases-loop-rest l = length l.rest
