use Rattle.std.proofs.Common.{sym, ap, ap₂, ◌∙◌}
use Rattle.std.specs.Ordering.{nat_cmp, ordering_then}
use Rattle.std.specs.Cmp.Lexicographic.{slice_cmp}
use Rattle.plan_limits.specs.First as spec
use Rattle.plan_limits.specs.declared.limit.Kept.{Kept}
use Rattle.plan_limits.specs.declared.limit.Kept.TheVariants as kept
use Rattle.plan_limits.proofs.Ranks.{ended_cmp}
use Rattle.plan_limits.proofs.rank.compare_words.Goals as goal

pub returns-in-Words : goal.returns-in-Words
returns-in-Words c =
    c.then.ensures
    ∙ ap₂ ordering_then (c.cmp-firsts.ensures ∙ ap₂ (slice_cmp nat_cmp) c.items.ensures c.items-in-Words.ensures) (c.cmp.ensures ∙ ap₂ (slice_cmp nat_cmp) c.items-in-Words-2.ensures c.items-in-Words-3.ensures)
    ∙ sym (ended_cmp c.args.first.now c.in-Words.one c.args.second.now c.in-Words.two)
    ∙ ap (λ (other : Kept). slice_cmp nat_cmp (spec.kept_rank (kept.Words c.args.first.now c.args.second.now)) (spec.kept_rank other)) (sym c.in-Words.is)
