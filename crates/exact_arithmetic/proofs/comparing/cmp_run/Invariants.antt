use Rattle.std.proofs.Common.{◌≡◌, ◌-◌, length, drop, replicate}
use Rattle.std.specs.Ordering.{nat_cmp}
use Rattle.std.specs.Cmp.Lexicographic.{slice_cmp}
use Rattle.exact_arithmetic.proofs.comparing.cmp_run.Given as goal

abbrev pub invariant-loop-next : goal.invariant-loop-next
invariant-loop-next l = slice_cmp nat_cmp (drop l.next-index l.left) (replicate (length l.left - l.next-index) l.fn.byte) ≡ slice_cmp nat_cmp l.left (replicate (length l.left) l.fn.byte)
