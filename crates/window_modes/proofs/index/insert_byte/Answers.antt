use Rattle.window_modes.proofs.Ranges.{inserted}
use Rattle.window_modes.proofs.index.insert_byte.Goals as goal

pub returns : goal.returns
returns c = inserted c.args.bytes.now.keys _ c.args.byte c.in_ok-insert.ensures.keys
