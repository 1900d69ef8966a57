use Rattle.window_modes.specs.Work.{HasBytesUpTo}
use Rattle.window_modes.proofs.index.add_bytes.Given as goal

abbrev pub invariant-loop-index : goal.invariant-loop-index
invariant-loop-index l = HasBytesUpTo l.year l.index l.number l.fn.bytes.keys l.bytes.keys
