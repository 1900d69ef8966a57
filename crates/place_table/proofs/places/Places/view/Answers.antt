use Rattle.storage_places.specs.Held.{held}
use Rattle.place_table.proofs.KnownLaws.{view-fails}
use Rattle.place_table.proofs.places.Places.view.Goals as goal

pub returns-in-Ok-clause-err : goal.returns-in-Ok-clause-err
returns-in-Ok-clause-err c =
    view-fails c.item_number.new.self _ c.args.place.now c.in-Ok.number (held c.args.storage.now) c.view_of.result c.in-Ok.ensures.grown.layout c.in-Ok.ensures.item c.view_of.ensures.err
