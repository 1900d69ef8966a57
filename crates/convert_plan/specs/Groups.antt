-- The groups of window items by their bytes.
use Rattle.std.specs.Prelude.{ℕ, List, [], ◌∷◌, map, slice_get, Option, Some, None}
use Rattle.std.specs.List.{flat_map}
use Rattle.y2k_base.specs.declared.place.Span.{Span}
use Rattle.data_layout.specs.declared.item.Item.{Item}
use Rattle.data_layout.specs.declared.item.Layout.{Layout}
use Rattle.data_layout.specs.declared.portfolio.ItemRef.{ItemRef}
use Rattle.window_items.specs.declared.window.Window.{Window}
use Rattle.window_items.specs.declared.window.Windows.{Windows}
use Rattle.window_modes.specs.declared.modes.WindowGroup.{WindowGroup}

abbrev pub span_if : Option Item → List Span
span_if None = []
span_if (Some item) = item.span ∷ []

abbrev pub span_in : Option Layout → ℕ → List Span
span_in None item = []
span_in (Some layout) item = span_if (slice_get layout.items item)

-- the bytes of the first occurrence of an item; an item that isn't there has none
abbrev pub span_of : List Layout → ItemRef → List Span
span_of layouts ref = span_in (slice_get layouts ref.program) ref.item

abbrev pub group_of : List Layout → Window → WindowGroup
group_of layouts window = record { pivot = window.pivot; spans = flat_map (span_of layouts) window.items }

abbrev pub groups_of : List Layout → List Window → List WindowGroup
groups_of layouts windows = map (group_of layouts) windows
