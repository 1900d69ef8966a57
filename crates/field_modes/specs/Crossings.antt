-- Moves between a year that stays in a window and one that gets its century.
use Rattle.std.specs.Prelude.{ℕ, Bool, true, false, List, Option, Some, None, is_some, unwrap_or, if◌then◌else◌}
use Rattle.std.specs.List.{list_any}
use Rattle.cobol_syntax.specs.declared.place.Place.{Place}
use Rattle.cobol_syntax.specs.declared.expr.Operand.{Operand}
use Rattle.data_layout.specs.declared.item.Layout.{Layout}
use Rattle.year_labels.specs.declared.label.Fact.{Fact}
use Rattle.year_pairs.specs.declared.year.Year.{Year}
use Rattle.window_modes.specs.declared.modes.YearMode.{YearMode}
use Rattle.year_index.specs.Years.{year_at}
use Rattle.date_views.specs.Sides.{side_of}
use Rattle.statement_rules.specs.Names.{operand_side}
use Rattle.mode_links.specs.declared.bridges.Bridge.{Bridge}
use Rattle.mode_links.specs.Bridges.{bridge}
use Rattle.date_uses.specs.Places.{operand_used}
use Rattle.generated_areas.specs.Bridged.{is_windowed, is_unlike, used_digits}
use Rattle.statement_places.specs.Parts.{Seen, Move, Compute, Accept, Test}
use Rattle.field_modes.specs.declared.crossing.Crossing.{Crossing}

abbrev pub pivot_in : Option YearMode → ℕ
pivot_in None = 0
pivot_in (Some mode) = unwrap_or mode.pivot 0

abbrev pub pivot_of : List YearMode → Year → ℕ
pivot_of modes year = pivot_in (year_at modes year.place)

-- the windowed one of the two years has the pivot
abbrev pub crossing_by : List YearMode → ℕ → Bridge → Crossing
crossing_by modes digits b =
    if is_windowed modes b.sent
    then record { digits = digits; pivot = pivot_of modes b.sent; windowed = true }
    else record { digits = digits; pivot = pivot_of modes b.received; windowed = false }

abbrev pub crossing_over : List YearMode → ℕ → Option Bridge → Option Crossing
crossing_over modes digits None = None
crossing_over modes digits (Some b) = if is_unlike modes b then Some (crossing_by modes digits b) else None

-- how a MOVE crosses: it is bridged, and the modes of its two years are unlike
abbrev pub move_crossing : List Fact → List YearMode → Layout → Operand → Place → Option Crossing
move_crossing facts modes layout from to =
    crossing_over modes (used_digits (operand_used layout from)) (bridge facts (operand_side layout from) (side_of layout to) to.subs)

abbrev pub part_crossing : List Fact → List YearMode → Layout → Seen → Option Crossing
part_crossing facts modes layout (Move at end from to) = move_crossing facts modes layout from to
part_crossing facts modes layout (Compute at end to rounded value) = None
part_crossing facts modes layout (Accept at end to from) = None
part_crossing facts modes layout (Test of) = None

abbrev pub crosses : List Fact → List YearMode → Layout → Seen → Bool
crosses facts modes layout part = is_some (part_crossing facts modes layout part)

abbrev pub any_crosses : List Fact → List YearMode → Layout → List Seen → Bool
any_crosses facts modes layout parts = list_any (crosses facts modes layout) parts
