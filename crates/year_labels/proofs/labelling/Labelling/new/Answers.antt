use Rattle.std.proofs.Common.{◌≡◌, ◌∙◌, sym, subst, arith, List, take, Contains}
use Rattle.std.proofs.lemmas.List.{take_all, get_or_default}
use Rattle.year_labels.specs.declared.label.Fact.{Fact}
use Rattle.year_labels.proofs.Keys.{AreKeysOf-more}
use Rattle.year_labels.proofs.labelling.Labelling.new.Goals as goal

pub loop-i-preserved : goal.loop-i-preserved
loop-i-preserved c =
    let items = c.items-items.result.now in
    AreKeysOf-more c.loop-i.sorted.keys _ items c.loop-i.i _ (omega arith) (get_or_default items c.loop-i.i _ _ (omega arith)) c.in_ok-insert_key_of.ensures c.loop-i.invariant

pub returns-clause-same : goal.returns-clause-same
returns-clause-same c = λ f.
    let items = c.items-items.result.now in
    let all : take c.loop-i.i items ≡ c.args.facts = take_all c.loop-i.i items (omega arith) ∙ c.items-items.ensures in (
      λ h. subst (λ (xs : List Fact). Contains xs f) all (c.loop-i.invariant.only f (subst (λ (xs : List Fact). Contains xs f) c.in_ok-facts.ensures.keys h)),
      λ h. subst (λ (xs : List Fact). Contains xs f) (sym c.in_ok-facts.ensures.keys) (c.loop-i.invariant.there f (subst (λ (xs : List Fact). Contains xs f) (sym all) h)),
    )
