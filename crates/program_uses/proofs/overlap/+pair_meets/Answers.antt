use Rattle.std.proofs.Common.{ℕ, sym, ◌∙◌, ap}
use Rattle.program_uses.proofs.NearOccurrences.{some_at}
use Rattle.program_uses.specs.Overlap as spec
use Rattle.program_uses.proofs.overlap.+pair_meets.Goals as goal

pub table_pair_meets-returns-then-pair_meets : goal.table_pair_meets-returns-then-pair_meets
table_pair_meets-returns-then-pair_meets t c =
    sym (some_at c.args.step.count c.loop-number.number _ c.loop-number-test.true
    (ap (spec.holds_at (spec.some_occurrence (λ (at : ℕ). spec.occurrence_meets (spec.stretch c.args.length at) c.args.other.now c.args.others.now) c.args.steps.now c.args.subs.now)) (sym c.occurrence_at-place.ensures)
    ∙ (sym c.pair_meets.ensures ∙ c.if-pair_meets.true)))
