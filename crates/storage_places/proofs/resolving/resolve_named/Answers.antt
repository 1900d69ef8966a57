use Rattle.std.proofs.Common.{◌≡◌, sym, ap, ◌∙◌, subst}
use Rattle.data_layout.specs.declared.found.Found.TheVariants as found
use Rattle.data_layout.specs.Find.{meaning}
use Rattle.storage_places.specs.Means.{IsWord}
use Rattle.storage_places.proofs.FitLaws.{named-fits}
use Rattle.storage_places.proofs.MeansLaws.{named-means}
use Rattle.storage_places.proofs.resolving.resolve_named.Goals as goal

pub returns-in-Named-clause-means : goal.returns-in-Named-clause-means
returns-in-Named-clause-means c =
    let means : meaning c.args.layout.now c.args.place.now.names ≡ found.Named c.in-Named.number =
    ap (meaning c.args.layout.now) (sym c.items-2.ensures) ∙ sym c.find.ensures ∙ c.in-Named.is in
    named-means c.args.layout.now c.args.place.now c.in-Named.number c.named_access.result c.requires.numbered (subst IsWord c.items.ensures c.are_words.ensures) means
    c.named_access.ensures.access c.named_access.ensures.subs c.named_access.ensures.cut

pub returns-in-Named-clause-fits : goal.returns-in-Named-clause-fits
returns-in-Named-clause-fits c = λ fit.
    named-fits c.args.layout.now c.args.place.now c.in-Named.number c.named_access.result c.named_access.ensures.access fit
