-- Bridged moves whose two years have unlike modes.
use Rattle.std.specs.Prelude.{ℕ, Bool, false, not, List, [], ◌∷◌, Option, Some, None, is_some, if◌then◌else◌}
use Rattle.year_pairs.specs.declared.year.Year.{Year}
use Rattle.window_modes.specs.declared.modes.YearMode.{YearMode}
use Rattle.date_views.specs.declared.side.Side.{Side}
use Rattle.date_views.specs.declared.side.Side.TheVariants as sides
use Rattle.mode_links.specs.declared.bridges.Bridge.{Bridge}
use Rattle.year_index.specs.Years.{year_at}
use Rattle.date_uses.specs.declared.uses.Used.{Used}
use Rattle.date_uses.specs.declared.uses.Used.TheVariants as used
use Rattle.date_uses.specs.declared.uses.UseForm.{UseForm}
use Rattle.date_uses.specs.declared.uses.UseForm.TheVariants as uses
use Rattle.generated_areas.specs.declared.bridged.BridgedMove.{BridgedMove}

abbrev pub has_pivot : Option YearMode → Bool
has_pivot None = false
has_pivot (Some mode) = is_some mode.pivot

abbrev pub is_windowed : List YearMode → Year → Bool
is_windowed modes year = has_pivot (year_at modes year.place)

-- one of the two years is windowed, and the other gets its century
abbrev pub is_unlike : List YearMode → Bridge → Bool
is_unlike modes bridge = if is_windowed modes bridge.sent then not (is_windowed modes bridge.received) else is_windowed modes bridge.received

abbrev pub side_digits : Option Side → ℕ
side_digits None = 0
side_digits (Some (sides.Known field)) = field.digits
side_digits (Some (sides.Moving most)) = 0

-- the integer digits of a sender
abbrev pub used_digits : Used → ℕ
used_digits (used.Place place) = side_digits place.side
used_digits (used.Number value digits at) = 0
used_digits (used.Text bytes at) = 0
used_digits (used.Figure byte at) = 0

abbrev pub bridged_over : List YearMode → Used → Option Bridge → List BridgedMove
bridged_over modes from None = []
bridged_over modes from (Some bridge) =
    if is_unlike modes bridge then record { digits = used_digits from; windowed = is_windowed modes bridge.sent } ∷ [] else []

abbrev pub bridged_in : List YearMode → UseForm → List BridgedMove
bridged_in modes (uses.Move kind from to bridge) = bridged_over modes from bridge
bridged_in modes (uses.Accept to from) = []
bridged_in modes (uses.Compare left rel right) = []
bridged_in modes (uses.Class of numeric) = []
bridged_in modes (uses.Sum to left right size) = []
bridged_in modes (uses.Difference to left right size) = []
bridged_in modes (uses.Value item of) = []
bridged_in modes (uses.Range item low high) = []
bridged_in modes (uses.Mention of) = []
