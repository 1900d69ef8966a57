use Rattle.std.proofs.Common.{ℕ, arith, refl, sym, ◌∙◌, subst}
use Rattle.std.proofs.lemmas.Bool.{false≢true}
use Rattle.std.proofs.lemmas.List.Elements.{Contains-get_or}
use Rattle.conflict_chain.specs.Named.{IsFactOf}
use Rattle.conflict_chain.proofs.Steps.{named_there, named_from, none_more}
use Rattle.conflict_chain.proofs.named.has.Goals as goal

pub returns-then-is_fact_of : goal.returns-then-is_fact_of
returns-then-is_fact_of c = (
  λ _. named_there c.args.steps.now c.args.from.now c.args.fact
      (_, Contains-get_or c.args.from.now c.loop-i.i _ (omega arith), c.is_fact_of.ensures.0 c.if-is_fact_of.true),
  λ _. refl,
)

pub loop-i-preserved : goal.loop-i-preserved
loop-i-preserved c =
    none_more (λ (n : ℕ). IsFactOf c.args.steps.now n c.args.fact) c.args.from.now c.loop-i.i _ (omega arith) c.loop-i.invariant
    (λ h. false≢true (sym c.if-is_fact_of.false ∙ c.is_fact_of.ensures.1 h))

pub returns : goal.returns
returns c = (
  λ e. absurd (false≢true e),
  λ at.
      let w = named_from c.args.steps.now c.args.from.now c.args.fact at in
      absurd (c.loop-i.invariant w.1.0 w.0 (omega (arith, w.1.1)) (subst (λ (n : ℕ). IsFactOf c.args.steps.now n c.args.fact) (sym w.1.2) w.2)),
)
