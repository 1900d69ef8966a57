use Rattle.std.proofs.Common.{◌≡◌, ◌++◌, length, map}
use Rattle.std.specs.Char.{to_ascii_uppercase}
use Rattle.window_items.proofs.name.capitals.Given as goal

abbrev pub invariant-loop-rest : goal.invariant-loop-rest
invariant-loop-rest l = l.capitals ++ map to_ascii_uppercase l.rest ≡ map to_ascii_uppercase l.text

abbrev pub decreases-loop-rest : goal.decreases-loop-rest
decreases-loop-rest l = length l.rest
