use Rattle.std.proofs.Common.{◌≡◌, ◌-◌, arith, refl, true, false}
use Rattle.std.proofs.lemmas.List.{get_or_default}
use Rattle.year_labels.proofs.Clean.{clean_all, unclean}
use Rattle.year_labels.proofs.labelling.have_places_of_their_own.Goals as goal

pub returns-then-are_of_one_place : goal.returns-then-are_of_one_place
returns-then-are_of_one_place c =
    let facts = c.args.facts.now in
    let i = c.loop-i.i in (
      λ e. absurd (let f : false ≡ true = e in cc),
      λ clean. absurd (unclean facts i _ _ c.requires (omega arith) (omega arith)
          (get_or_default facts (i - 1) _ _ (omega arith)) (get_or_default facts i _ _ (omega arith)) (c.are_of_one_place.ensures.0 c.if-are_of_one_place.true) clean),
    )

pub returns : goal.returns
returns c = (λ _. clean_all c.args.facts.now c.requires (λ k d low. c.loop-i.invariant k d (omega arith)), λ _. refl)
