use Rattle.window_modes.specs.Work.{IsIndexUpTo}
use Rattle.window_modes.proofs.index.index_years.Given as goal

abbrev pub invariant-loop-number : goal.invariant-loop-number
invariant-loop-number l = IsIndexUpTo l.years l.number l.bytes.keys
