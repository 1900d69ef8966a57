use Rattle.place_table.proofs.KnownLaws.{form-given}
use Rattle.place_table.proofs.places.Places.form.Goals as goal

pub returns-in-Ok-clause-form : goal.returns-in-Ok-clause-form
returns-in-Ok-clause-form c =
    form-given c.item_number.new.self _ c.args.place.now c.in-Ok.number c.item_form.result c.in-Ok.ensures.grown.layout c.in-Ok.ensures.item c.item_form.ensures.form
