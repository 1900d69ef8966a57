-- What a plan says of bytes and files.
use Rattle.std.specs.Prelude.{ℕ, Bool, nat_lt, List, Option, Some, None, slice_get, length, unwrap_or, if◌then◌else◌}
use Rattle.y2k_base.specs.declared.place.AreaId.{AreaId}
use Rattle.y2k_base.specs.declared.place.BytePlace.{BytePlace}
use Rattle.year_image.specs.Offset.{image_offset}
use Rattle.file_convert.specs.declared.cut.Cuts.{Cuts}
use Rattle.file_convert.specs.Cuts.{pieces}
use Rattle.plan_images.specs.Tables.{cuts_at}
use Rattle.window_modes.specs.declared.modes.YearMode.{YearMode}
use Rattle.year_index.specs.Years.{year_at}
use Rattle.convert_plan.specs.declared.plan.PairMode.{PairMode}
use Rattle.convert_plan.specs.declared.plan.PairMode.TheVariants as mode

abbrev pub pivot_of : Option YearMode → Option ℕ
pivot_of None = None
pivot_of (Some found) = found.pivot

-- the pivot of the windowed year that has the byte
abbrev pub pivot_at : List YearMode → BytePlace → Option ℕ
pivot_at modes place = pivot_of (year_at modes place)

abbrev pub pair_mode : Option ℕ → PairMode
pair_mode None = mode.Expanded
pair_mode (Some pivot) = mode.Windowed

abbrev pub mode_of : Option YearMode → Option PairMode
mode_of None = None
mode_of (Some found) = Some (pair_mode found.pivot)

-- the mode of the year that has the byte
abbrev pub mode_at : List YearMode → BytePlace → Option PairMode
mode_at modes place = mode_of (year_at modes place)

abbrev pub number_at : List ℕ → AreaId → ℕ
number_at numbers area = unwrap_or (slice_get numbers area.0) 0

-- where the byte stands in the area that is its own after conversion
abbrev pub place_after : List ℕ → List Cuts → BytePlace → BytePlace
place_after numbers images place = record {
  area = record { 0 = number_at numbers place.area };
  offset = image_offset (pieces (cuts_at images place.area)) place.offset;
}

abbrev pub cuts_in : List Cuts → AreaId → Option Cuts
cuts_in images area = if nat_lt area.0 (length images) then Some (cuts_at images area) else None

abbrev pub cuts_if : List Cuts → Option AreaId → Option Cuts
cuts_if images None = None
cuts_if images (Some area) = cuts_in images area

abbrev pub cuts_by : List Cuts → Option (Option AreaId) → Option Cuts
cuts_by images None = None
cuts_by images (Some area) = cuts_if images area

-- the cuts of the records of a file, by its number
abbrev pub cuts_of : List (Option AreaId) → List Cuts → ℕ → Option Cuts
cuts_of files images file = cuts_by images (slice_get files file)
