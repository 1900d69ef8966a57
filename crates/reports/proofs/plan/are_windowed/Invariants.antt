use Rattle.std.proofs.Common.{◌≡◌, length}
use Rattle.reports.specs.Plans as spec
use Rattle.reports.proofs.plan.are_windowed.Given as goal

abbrev pub invariant-loop-rest : goal.invariant-loop-rest
invariant-loop-rest l = spec.are_windowed l.rest ≡ spec.are_windowed l.years

abbrev pub decreases-loop-rest : goal.decreases-loop-rest
decreases-loop-rest l = length l.rest
