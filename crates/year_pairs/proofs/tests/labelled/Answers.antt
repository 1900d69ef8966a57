use Rattle.std.proofs.Common.{List, sym, subst}
use Rattle.year_labels.specs.declared.label.Fact.{Fact}
use Rattle.year_pairs.specs.Years.{AreInAreas}
use Rattle.year_pairs.proofs.Rows.{in_areas_none, in_areas_more}
use Rattle.year_pairs.proofs.tests.labelled.Goals as goal

pub loop-i-init : goal.loop-i-init
loop-i-init c = subst (λ (xs : List Fact). AreInAreas xs) (sym c.new-facts.ensures) in_areas_none

pub loop-i-preserved : goal.loop-i-preserved
loop-i-preserved c = in_areas_more c.loop-i.facts _ c.fact.result c.in_ok-push.ensures.ok c.fact.ensures c.loop-i.invariant

pub returns : goal.returns
returns c = λ f at. c.loop-i.invariant f ((c.in_ok-labelling.ensures.same f).0 at)
