-- Sums and differences with a year: each of their operands must be a year or plain.
use Rattle.std.specs.Prelude.{Bool, not, ◌||◌, List, [], ◌∷◌, ◌++◌, Option, Some, None, slice_get, if◌then◌else◌}
use Rattle.y2k_base.specs.declared.word.Origin.{Origin}
use Rattle.y2k_base.specs.declared.word.Word.{Word}
use Rattle.year_labels.specs.declared.label.Fact.{Fact}
use Rattle.date_views.specs.declared.side.Side.{Side}
use Rattle.date_views.specs.Sums.{part}
use Rattle.date_uses.specs.declared.uses.Used.{Used}
use Rattle.date_uses.specs.declared.uses.Used.TheVariants as used
use Rattle.plan_limits.specs.declared.limit.Limit.{Limit}
use Rattle.plan_limits.specs.declared.limit.LimitKind.TheVariants as kinds
use Rattle.plan_limits.specs.Limits.{word_limit}
use Rattle.statement_limits.specs.Roles.{is_year, is_plain}

-- a literal is no side
abbrev pub operand_side : Used → Option Side
operand_side (used.Place place) = place.side
operand_side (used.Number value digits word) = None
operand_side (used.Text bytes word) = None
operand_side (used.Figure byte word) = None

-- as it takes part, the operand is a year
abbrev pub is_year_operand : List Fact → Option Side → Bool
is_year_operand facts side = is_year facts (part side)

-- as it takes part, the operand is neither a year nor plain
abbrev pub is_undecided : List Fact → Option Side → Bool
is_undecided facts side = not (is_year facts (part side) || is_plain facts (part side))

abbrev pub named : Origin → Option Word → List Limit
named at None = []
named at (Some word) = word_limit kinds.Undecided at word.text ∷ []

-- it is named by the first word of its place
abbrev pub operand_limits : List Fact → List Word → Origin → Used → List Limit
operand_limits facts words at (used.Place place) =
    if is_undecided facts place.side then named at (slice_get words place.at) else []
operand_limits facts words at (used.Number value digits word) = []
operand_limits facts words at (used.Text bytes word) = []
operand_limits facts words at (used.Figure byte word) = []

abbrev pub has_year : List Fact → Used → Used → Used → Bool
has_year facts to left right =
    is_year_operand facts (operand_side to) || (is_year_operand facts (operand_side left) || is_year_operand facts (operand_side right))

-- the receiver first, then the left operand, then the right one
abbrev pub all_operands : List Fact → List Word → Origin → Used → Used → Used → List Limit
all_operands facts words at to left right =
    operand_limits facts words at to ++ (operand_limits facts words at left ++ operand_limits facts words at right)

abbrev pub sum_limits : List Fact → List Word → Origin → Used → Used → Used → List Limit
sum_limits facts words at to left right = if has_year facts to left right then all_operands facts words at to left right else []
