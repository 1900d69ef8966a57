use Rattle.std.proofs.Common.{◌≡◌, length, take}
use Rattle.byte_lists.specs.Text.{filled}
use Rattle.value_moves.proofs.receiving.copy_text.Given as goal

abbrev pub invariant-loop-i : goal.invariant-loop-i
invariant-loop-i l = take l.i l.into ≡ take l.i (filled (length l.fn.into) l.from)
