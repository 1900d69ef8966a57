-- Records whose years are moved, or lose their century.
use Rattle.std.specs.Prelude.{◌≡◌, ℕ, ◌+◌, List, [], ◌∷◌, ◌++◌, take, drop, Option, Some, None}
use Rattle.std.specs.Option.{option_map}
use Rattle.byte_lists.specs.Part.{part}
use Rattle.year_image.specs.Piece.{Piece, grown_size}
use Rattle.file_convert.specs.Cuts.{pieces}
use Rattle.file_convert.specs.declared.cut.Cuts.{Cuts}
use Rattle.year_ageing.specs.declared.side.Side.{Side}
use Rattle.year_ageing.specs.declared.side.Side.TheVariants as sides
use Rattle.year_ageing.specs.declared.fault.AgeFault.{AgeFault}
use Rattle.year_ageing.specs.declared.fault.AgeKind.{AgeKind}
use Rattle.year_ageing.specs.declared.record.Spot.{Spot}
use Rattle.year_ageing.specs.declared.task.Task.{Task}
use Rattle.year_ageing.specs.Years.{side_width, task_side, fault_of, change_of}

-- how many bytes a record has on a side
abbrev pub side_length : Side → Cuts → ℕ
side_length sides.Old cuts = cuts.length
side_length sides.New cuts = grown_size (pieces cuts)

-- the bytes of each piece changed by a function of the piece
abbrev pub changed_by : Side → (Piece → List ℕ → List ℕ) → List Piece → List ℕ → List ℕ
changed_by side change [] bs = []
changed_by side change (p ∷ ps) bs = change p (take (side_width side p) bs) ++ changed_by side change ps (drop (side_width side p) bs)

-- this kind of fault at this place, or what is found later
abbrev pub spot_or : ℕ → ℕ → Option AgeKind → Option Spot → Option Spot
spot_or at size None later = later
spot_or at size (Some kind) later = Some (record { kind = kind; offset = at; width = size })

-- the first piece at fault, the first of them at this place
abbrev pub first_by : Side → (Piece → List ℕ → Option AgeKind) → ℕ → List Piece → List ℕ → Option Spot
first_by side fault at [] bs = None
first_by side fault at (p ∷ ps) bs =
    spot_or at (side_width side p) (fault p (take (side_width side p) bs))
    (first_by side fault (at + side_width side p) ps (drop (side_width side p) bs))

-- the first cut at fault of a record
abbrev pub first_fault : Task → Cuts → List ℕ → Option Spot
first_fault task cuts record_bytes = first_by (task_side task) (fault_of task) 0 (pieces cuts) record_bytes

-- what becomes of a record
abbrev pub changed : Task → Cuts → List ℕ → List ℕ
changed task cuts = changed_by (task_side task) (change_of task) (pieces cuts)

-- the fault of the first cut at fault
abbrev pub spot_fault : Spot → AgeFault
spot_fault spot = record { kind = spot.kind; offset = spot.offset }

-- the bytes of the cut at fault
abbrev pub spot_bytes : Spot → List ℕ → List ℕ
spot_bytes spot record_bytes = part record_bytes spot.offset spot.width
