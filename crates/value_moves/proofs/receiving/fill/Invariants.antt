use Rattle.std.proofs.Common.{◌≡◌, take, replicate}
use Rattle.value_moves.proofs.receiving.fill.Given as goal

abbrev pub invariant-loop-i : goal.invariant-loop-i
invariant-loop-i l = take l.i l.into ≡ replicate l.i l.fn.byte
