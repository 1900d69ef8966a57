use Rattle.std.proofs.Common.{◌↔◌, ◌∙◌, subst, List, IsTrue}
use Rattle.year_labels.specs.declared.label.Fact.{Fact}
use Rattle.year_labels.specs.Facts.{IsClean}
use Rattle.year_labels.proofs.labelling.Labelling.clean.Goals as goal

pub returns : goal.returns
returns c =
    subst (λ (facts : List Fact). IsTrue c.have_places_of_their_own.result ↔ IsClean facts) (c.deref.ensures.value ∙ c.self.view_is) c.have_places_of_their_own.ensures
