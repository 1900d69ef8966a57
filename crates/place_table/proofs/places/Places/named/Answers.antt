use Rattle.storage_places.specs.Held.{held}
use Rattle.place_table.proofs.KnownLaws.{name-fails}
use Rattle.place_table.proofs.places.Places.named.Goals as goal

pub returns-in-Err-view_of-clause-err : goal.returns-in-Err-view_of-clause-err
returns-in-Err-view_of-clause-err c =
    name-fails c.name_number.new.self _ c.args.place.now c.in-Ok.name c.in-Ok.number (held c.args.storage.now) c.in-Err-view_of.fault c.in-Ok.ensures.grown.layout c.in-Ok.ensures.item c.in-Err-view_of.ensures.err
