use Rattle.std.proofs.Common.{sym, ap, ◌∙◌}
use Rattle.std.specs.Ordering.{is_ge}
use Rattle.plan_limits.proofs.Ranks.{taken_before, taken_as_first}
use Rattle.plan_limits.proofs.first.first_limit.Goals as goal

pub loop-limit-preserved-then-is_ge : goal.loop-limit-preserved-then-is_ge
loop-limit-preserved-then-is_ge c =
    taken_as_first _ _ _ _ c.loop-limit.first c.loop-limit.invariant c.in-Some-pop.ensures.items
    (sym (c.is_ge.ensures ∙ ap is_ge c.compare.ensures) ∙ c.if-is_ge.true)

pub loop-limit-preserved : goal.loop-limit-preserved
loop-limit-preserved c =
    taken_before _ _ _ c.in-Some-pop.limit _ c.loop-limit.invariant c.in-Some-pop.ensures.items
    (sym (c.is_ge.ensures ∙ ap is_ge c.compare.ensures) ∙ c.if-is_ge.false)
