use Rattle.std.proofs.Common.{◌≡◌, ◌+◌, ◌*◌, ℕ, false, length}
use Rattle.program_uses.specs.Overlap as spec
use Rattle.program_uses.proofs.overlap.+some_meets.Given as goal

abbrev pub decreases-some_meets : goal.decreases-some_meets
decreases-some_meets l = 2 * length l.steps.now

abbrev pub decreases-table_meets : goal.decreases-table_meets
decreases-table_meets l = 2 * length l.steps.now + 1

abbrev pub invariant-table_meets-loop-number : goal.invariant-table_meets-loop-number
invariant-table_meets-loop-number l =
    spec.some_below l.number
    (λ (k : ℕ). spec.holds_at (spec.some_occurrence (λ (at : ℕ). spec.meet l.stretch at l.length) l.steps l.subs) (spec.small (l.start + k * l.step.size)))
    ≡ false
