use Rattle.std.proofs.Common.{◌≡◌, ◌-◌, length, drop, replicate}
use Rattle.std.specs.Ordering.{nat_cmp}
use Rattle.std.specs.Cmp.Lexicographic.{slice_cmp}
use Rattle.exact_arithmetic.proofs.comparing.run_cmp.Given as goal

abbrev pub invariant-loop-next : goal.invariant-loop-next
invariant-loop-next l = slice_cmp nat_cmp (replicate (length l.right - l.next-index) l.fn.byte) (drop l.next-index l.right) ≡ slice_cmp nat_cmp (replicate (length l.right) l.fn.byte) l.right
