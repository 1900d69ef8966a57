use Rattle.std.proofs.Common.{◌≡◌, ◌++◌, length, map, replicate}
use Rattle.source_edit.proofs.stretch.add_later.Given as goal

abbrev pub invariant-loop-rest : goal.invariant-loop-rest
invariant-loop-rest l = l.lines ++ map (λ b. replicate 6 32 ++ b) l.rest ≡ l.initial.lines ++ map (λ b. replicate 6 32 ++ b) l.laid

abbrev pub decreases-loop-rest : goal.decreases-loop-rest
decreases-loop-rest l = length l.rest
