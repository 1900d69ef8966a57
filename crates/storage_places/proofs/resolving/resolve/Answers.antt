use Rattle.std.proofs.Common.{◌≡◌, sym, ap, ◌∙◌, subst, Option, Some, Bor}
use Rattle.std.specs.Option.{option_map}
use Rattle.data_layout.specs.declared.item.Item.{Item}
use Rattle.storage_places.specs.Means.{IsWord}
use Rattle.storage_places.specs.Resolved as resolved
use Rattle.storage_places.proofs.FitLaws.{resolved-fits}
use Rattle.storage_places.proofs.MeansLaws.{resolved-means}
use Rattle.storage_places.proofs.resolving.resolve.Goals as goal

pub returns-in-Some-clause-means : goal.returns-in-Some-clause-means
returns-in-Some-clause-means c =
    let named : resolved.item_named c.args.layout.now c.args.place.now.names ≡ Some c.in-Some.item.now =
    ap (resolved.item_named c.args.layout.now) (sym c.items.ensures) ∙ sym c.item_named.ensures.item ∙ ap (λ (o : Option (Bor Item)). option_map (λ (b : Bor Item). b.now) o) c.in-Some.is in
    resolved-means c.args.layout.now c.args.place.now c.in-Some.item.now c.access_to.result c.requires.numbered (subst IsWord c.items.ensures c.item_named.ensures.words) named
    c.access_to.ensures.access c.access_to.ensures.subs c.access_to.ensures.cut

pub returns-in-Some-clause-fits : goal.returns-in-Some-clause-fits
returns-in-Some-clause-fits c =
    let named : resolved.item_named c.args.layout.now c.args.place.now.names ≡ Some c.in-Some.item.now =
    ap (resolved.item_named c.args.layout.now) (sym c.items.ensures) ∙ sym c.item_named.ensures.item ∙ ap (λ (o : Option (Bor Item)). option_map (λ (b : Bor Item). b.now) o) c.in-Some.is in
    λ fit. resolved-fits c.args.layout.now c.args.place.now c.in-Some.item.now c.access_to.result named c.access_to.ensures.access fit
