use Rattle.std.proofs.Common.{◌≡◌, map, take, replicate}
use Rattle.layout_reading.specs.Reading.{read_area}
use Rattle.storage_places.proofs.storage.blank_areas.Given as goal

abbrev pub invariant-loop-i : goal.invariant-loop-i
invariant-loop-i l = map (λ area. area.items) l.blank.items ≡ map (λ n. replicate n 32) (map read_area (take l.i l.areas))
