use Rattle.std.proofs.Common.{◌≡◌, inl, inr, ℕ, sym, ◌∙◌, subst, arith, Contains}
use Rattle.std.proofs.lemmas.Bool.{cases_lt, false≢true}
use Rattle.year_labels.specs.Facts.{fact_in}
use Rattle.label_spread.specs.Steps.{label_on}
use Rattle.label_spread.proofs.packed.any_bears.Goals as goal

pub loop-k-preserved : goal.loop-k-preserved
loop-k-preserved c = λ j low at. elim (cases_lt j c.loop-k.k) [
  | inl before ↦ c.loop-k.invariant j before at
  | inr after ↦
      let here : j ≡ c.loop-k.k = omega arith in
      false≢true (sym c.if-bears.false ∙ c.bears.ensures.1 (subst (λ (n : ℕ). Contains c.args.known.now (fact_in c.args.span n (label_on c.args.label n))) here at))
]

pub returns : goal.returns
returns c = (λ e. absurd (false≢true e), λ w. absurd (c.loop-k.invariant w.0 (omega (arith, w.1)) w.2))
