use Rattle.std.proofs.Common.{ℕ, arith, sym, ◌∙◌}
use Rattle.std.proofs.lemmas.Bool.{false≢true}
use Rattle.label_spread.specs.Steps.{IsPassedAt}
use Rattle.conflict_chain.specs.Named.{named}
use Rattle.conflict_chain.proofs.Steps.{none_below_more}
use Rattle.conflict_chain.proofs.follows.is_passed.Goals as goal

pub loop-power-preserved : goal.loop-power-preserved
loop-power-preserved c =
    none_below_more (λ (p : ℕ). IsPassedAt c.args.a.now c.args.b.now p (named c.args.steps.now c.args.from.now) c.args.fact) c.loop-power.power c.loop-power.invariant
    (λ h. false≢true (sym c.if-is_passed_at.false ∙ c.is_passed_at.ensures.1 h))

pub returns : goal.returns
returns c = (
  λ e. absurd (false≢true e),
  λ h.
      let low = c.power_limit-limit.ensures.above (named c.args.steps.now c.args.from.now) h.0 h.1 c.args.fact h.3 in
      absurd (c.loop-power.invariant h.0 (omega (arith, low)) (h.1, (h.2, h.3))),
)
