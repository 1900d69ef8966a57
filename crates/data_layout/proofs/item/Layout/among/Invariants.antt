use Rattle.std.proofs.Common.{◌≡◌, length}
use Rattle.data_layout.specs.Find as spec
use Rattle.data_layout.specs.Index as index
use Rattle.data_layout.proofs.item.Layout.among.Given as goal

abbrev pub invariant-loop-thing : goal.invariant-loop-thing
invariant-loop-thing l = spec.with l.found (index.among l.self l.qualifiers l.rest) ≡ index.among l.self l.qualifiers l.things

abbrev pub decreases-loop-thing : goal.decreases-loop-thing
decreases-loop-thing l = length l.rest
