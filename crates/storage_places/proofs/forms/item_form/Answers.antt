use Rattle.std.proofs.Common.{◌≡◌, sym, ap, ◌∙◌, subst, Option, Some, Bor}
use Rattle.std.specs.Option.{option_map}
use Rattle.data_layout.specs.declared.item.Item.{Item}
use Rattle.operand_kinds.specs.Kinds as operand
use Rattle.storage_places.specs.Forms.{kind_form, IsFormOf}
use Rattle.storage_places.specs.Means.{IsWord}
use Rattle.storage_places.specs.Resolved as resolved
use Rattle.storage_places.proofs.FormLaws.{form-means}
use Rattle.storage_places.proofs.forms.item_form.Goals as goal

pub returns-in-Some-clause-form : goal.returns-in-Some-clause-form
returns-in-Some-clause-form c =
    let item = c.in-Some.item.now in
    let named : resolved.item_named c.args.layout.now c.args.place.now.names ≡ Some item =
    ap (resolved.item_named c.args.layout.now) (sym c.items.ensures) ∙ sym c.item_named.ensures.item ∙ ap (λ (o : Option (Bor Item)). option_map (λ (b : Bor Item). b.now) o) c.in-Some.is in
    let form : kind_form (operand.kind_of_item item) ≡ c.form_of.result = ap kind_form (sym c.kind_of_item.ensures) ∙ sym c.form_of.ensures in
    subst (IsFormOf c.args.layout.now c.args.place.now) form
    (form-means c.args.layout.now c.args.place.now item c.requires.numbered c.requires.fits (subst IsWord c.items.ensures c.item_named.ensures.words) named)
