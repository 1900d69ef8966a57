-- The limits that stand at entries.
use Rattle.std.specs.Prelude.{List, [], ◌∷◌, ◌++◌, Option, Some, None, if◌then◌else◌}
use Rattle.y2k_base.specs.declared.place.BytePlace.{BytePlace}
use Rattle.y2k_base.specs.declared.word.Origin.{Origin}
use Rattle.cobol_syntax.specs.declared.program.Program.{Program}
use Rattle.data_layout.specs.declared.item.Layout.{Layout}
use Rattle.year_labels.specs.declared.label.Fact.{Fact}
use Rattle.window_modes.specs.declared.modes.YearMode.{YearMode}
use Rattle.plan_limits.specs.declared.limit.Limit.{Limit}
use Rattle.plan_limits.specs.declared.limit.LimitKind.{LimitKind}
use Rattle.plan_limits.specs.declared.limit.LimitKind.TheVariants as limits
use Rattle.plan_limits.specs.Limits.{place_limit}
use Rattle.entry_limits.specs.Covering.{first_entry}
use Rattle.entry_limits.specs.Items.{items_limits}

abbrev pub limit_if : LimitKind → BytePlace → Option Origin → List Limit
limit_if kind place None = []
limit_if kind place (Some at) = place_limit kind at place ∷ []

-- a limit of a byte stands at the first entry that covers it
abbrev pub byte_limit : LimitKind → List Program → List Layout → BytePlace → List Limit
byte_limit kind programs layouts place = limit_if kind place (first_entry programs layouts place)

-- the bytes of a year that lack a neighbour
abbrev pub lone_limits : List Program → List Layout → List Fact → List Limit
lone_limits programs layouts [] = []
lone_limits programs layouts (fact ∷ facts) = byte_limit limits.SplitYear programs layouts fact.place ++ lone_limits programs layouts facts

abbrev pub clash_limit : List Program → List Layout → YearMode → List Limit
clash_limit programs layouts mode = if mode.clash then byte_limit limits.PivotClash programs layouts mode.year.place else []

-- the years that groups with unlike pivots have
abbrev pub clash_limits : List Program → List Layout → List YearMode → List Limit
clash_limits programs layouts [] = []
clash_limits programs layouts (mode ∷ modes) = clash_limit programs layouts mode ++ clash_limits programs layouts modes

-- the items of each program, with its layout
abbrev pub programs_limits : List YearMode → List Program → List Layout → List Limit
programs_limits modes [] layouts = []
programs_limits modes (program ∷ programs) [] = []
programs_limits modes (program ∷ programs) (layout ∷ layouts) =
    items_limits modes program.words layout.items ++ programs_limits modes programs layouts

-- those of the bytes that lack a neighbour, of items, and of years that clash
abbrev pub entry_limits : List Program → List Layout → List Fact → List YearMode → List Limit
entry_limits programs layouts lone modes =
    lone_limits programs layouts lone ++ (programs_limits modes programs layouts ++ clash_limits programs layouts modes)
