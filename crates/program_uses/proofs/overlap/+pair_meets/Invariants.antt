use Rattle.std.proofs.Common.{◌≡◌, ◌+◌, ◌*◌, ℕ, false, length}
use Rattle.program_uses.specs.Overlap as spec
use Rattle.program_uses.proofs.overlap.+pair_meets.Given as goal

abbrev pub decreases-pair_meets : goal.decreases-pair_meets
decreases-pair_meets l = 2 * length l.steps.now

abbrev pub decreases-table_pair_meets : goal.decreases-table_pair_meets
decreases-table_pair_meets l = 2 * length l.steps.now + 1

abbrev pub invariant-table_pair_meets-loop-number : goal.invariant-table_pair_meets-loop-number
invariant-table_pair_meets-loop-number l =
    spec.some_below l.number
    (λ (k : ℕ). spec.holds_at (spec.some_occurrence (λ (at : ℕ). spec.occurrence_meets (spec.stretch l.length at) l.other l.others) l.steps l.subs) (spec.small (l.start + k * l.step.size)))
    ≡ false
