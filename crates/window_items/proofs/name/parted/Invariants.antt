use Rattle.std.proofs.Common.{◌≡◌, drop, take}
use Rattle.std.specs.Option.{option_map}
use Rattle.window_items.specs.Items.{parted}
use Rattle.window_items.proofs.Points.{before}
use Rattle.window_items.proofs.name.parted.Given as goal

abbrev pub invariant-loop-i : goal.invariant-loop-i
invariant-loop-i l = option_map (before (take l.i l.text)) (parted (drop l.i l.text)) ≡ parted l.text
