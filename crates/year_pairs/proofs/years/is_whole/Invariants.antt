use Rattle.std.proofs.Common.{ℕ, ◌<◌, Contains}
use Rattle.year_pairs.specs.Years.{byte_of}
use Rattle.year_pairs.proofs.years.is_whole.Given as goal

abbrev pub invariant-loop-index : goal.invariant-loop-index
invariant-loop-index l = (k : ℕ) → k < l.index → Contains l.labelling (byte_of l.year k)
