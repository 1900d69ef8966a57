use Rattle.std.proofs.Common.{◌≡◌, ℕ, ◌<◌, IfSome, IfNone, sym, ◌∙◌, subst}
use Rattle.storage_start.proofs.Fraction.{passed, fraction}
use Rattle.storage_start.proofs.scale.scale_of.Goals as goal

pub returns-then-is_point-clause-some : goal.returns-then-is_point-clause-some
returns-then-is_point-clause-some c =
    subst (λ (n : ℕ). IfSome c.shown_digits.result (λ scale. scale ≡ n))
    (fraction c.args.picture.now c.loop-i.i c.loop-i-test.true (sym c.is_point.ensures ∙ c.if-is_point.true) c.loop-i.invariant) c.shown_digits.ensures.some

pub returns-then-is_point-clause-none : goal.returns-then-is_point-clause-none
returns-then-is_point-clause-none c =
    subst (λ (n : ℕ). IfNone c.shown_digits.result (18 < n))
    (fraction c.args.picture.now c.loop-i.i c.loop-i-test.true (sym c.is_point.ensures ∙ c.if-is_point.true) c.loop-i.invariant) c.shown_digits.ensures.none

pub loop-i-preserved : goal.loop-i-preserved
loop-i-preserved c = passed c.args.picture.now c.loop-i.i c.loop-i-test.true (sym c.is_point.ensures ∙ c.if-is_point.false) ∙ c.loop-i.invariant
