use Rattle.std.proofs.Common.{◌≡◌, length}
use Rattle.cobol_syntax.specs.Chains.{joined}
use Rattle.cobol_syntax.proofs.cond.joined.Given as goal

abbrev pub invariant-loop-joint : goal.invariant-loop-joint
invariant-loop-joint l = joined l.fn.joints l.fn.first ≡ joined l.joints.items l.first

abbrev pub decreases-loop-joint : goal.decreases-loop-joint
decreases-loop-joint l = length l.joints.items
