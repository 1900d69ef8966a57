use Rattle.std.proofs.Common.{sym, ◌∙◌, ap, arith}
use Rattle.program_uses.proofs.NearOccurrences.{none_first, none_last, some_at}
use Rattle.program_uses.specs.Overlap as spec
use Rattle.program_uses.proofs.overlap.+some_meets.Goals as goal

pub table_meets-loop-number-init : goal.table_meets-loop-number-init
table_meets-loop-number-init t c =
    none_first c.args.stretch c.args.length c.args.steps.now c.args.subs.now c.args.start c.args.step.size c.first_near-first.result _ c.reach.ensures c.first_near-first.ensures

pub table_meets-returns-then-some_meets : goal.table_meets-returns-then-some_meets
table_meets-returns-then-some_meets t c =
    sym (some_at c.args.step.count c.loop-number.number _ (omega (arith, c.loop-number-test.true, c.end_near-end.ensures.within))
    (ap (spec.holds_at (spec.some_occurrence (λ at. spec.meet c.args.stretch at c.args.length) c.args.steps.now c.args.subs.now)) (sym c.occurrence_at-place.ensures)
    ∙ (sym c.some_meets.ensures ∙ c.if-some_meets.true)))

pub table_meets-returns : goal.table_meets-returns
table_meets-returns t c =
    sym (none_last c.args.stretch c.args.length c.args.steps.now c.args.subs.now c.args.start c.args.step.size c.loop-number.number c.args.step.count
    c.loop-number.invariant
    (λ k from below. c.end_near-end.ensures.past k (omega (arith, from, c.loop-number-test.false)) below))
