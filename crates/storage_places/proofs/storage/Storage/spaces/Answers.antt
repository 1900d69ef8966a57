use Rattle.std.proofs.Common.{map, ap, ◌∙◌}
use Rattle.layout_reading.specs.Reading.{read_area}
use Rattle.storage_places.specs.Held.{lengths}
use Rattle.storage_places.proofs.HeldLaws.{blank-lengths}
use Rattle.storage_places.proofs.storage.Storage.spaces.Goals as goal

pub returns-clause-lengths : goal.returns-clause-lengths
returns-clause-lengths c =
    ap lengths c.in_ok-areas.ensures ∙ blank-lengths (map read_area c.items.result.now) ∙ ap (map read_area) c.items.ensures
