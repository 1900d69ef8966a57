use Rattle.std.proofs.Common.{◌≡◌, ◌++◌, length}
use Rattle.entry_limits.specs.Covering.{AreEntries}
use Rattle.entry_limits.specs.Whole as spec
use Rattle.entry_limits.proofs.whole.add_lone.Given as goal

abbrev pub invariant-loop-rest : goal.invariant-loop-rest
invariant-loop-rest l =
    AreEntries l.programs l.layouts l.near
    × (l.limits ++ spec.lone_limits l.programs l.layouts l.rest ≡ l.fn.limits ++ spec.lone_limits l.programs l.layouts l.lone)

abbrev pub decreases-loop-rest : goal.decreases-loop-rest
decreases-loop-rest l = length l.rest
