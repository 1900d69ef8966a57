use Rattle.std.proofs.Common.{◌≡◌, length}
use Rattle.data_layout.specs.Sections as spec
use Rattle.data_layout.proofs.sections.greatest.Given as goal

abbrev pub invariant-loop-entry : goal.invariant-loop-entry
invariant-loop-entry l = spec.greatest l.most (spec.tops l.rest) ≡ spec.greatest 0 (spec.tops l.entries)

abbrev pub decreases-loop-entry : goal.decreases-loop-entry
decreases-loop-entry l = length l.rest
