use Rattle.std.proofs.Common.{ℕ, arith, sym, ◌∙◌, Contains}
use Rattle.std.proofs.lemmas.Bool.{false≢true}
use Rattle.year_labels.specs.Facts.{fact_in}
use Rattle.label_spread.specs.Steps.{label_on}
use Rattle.conflict_chain.specs.Named.{named}
use Rattle.conflict_chain.proofs.Steps.{none_below_more}
use Rattle.conflict_chain.proofs.named.any_bears.Goals as goal

pub loop-k-preserved : goal.loop-k-preserved
loop-k-preserved c =
    none_below_more (λ (j : ℕ). Contains (named c.args.steps.now c.args.from.now) (fact_in c.args.span j (label_on c.args.label j))) c.loop-k.k c.loop-k.invariant
    (λ h. false≢true (sym c.if-bears.false ∙ c.bears.ensures.1 h))

pub returns : goal.returns
returns c = (λ e. absurd (false≢true e), λ h. absurd (c.loop-k.invariant h.0 (omega (arith, h.1)) h.2))
