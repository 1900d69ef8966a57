-- What the names in a statement give by themselves: subscripts and the bounds of references are plain, and so is an item
-- of which a part is taken that may stand anywhere.
use Rattle.std.specs.Prelude.{ℕ, Bool, true, false, ◌||◌, List, [], ◌∷◌, ◌++◌, Option, Some, None, slice_get, if◌then◌else◌}
use Rattle.y2k_base.specs.declared.word.Origin.{Origin}
use Rattle.cobol_syntax.specs.declared.place.Place.{Place}
use Rattle.cobol_syntax.specs.declared.place.Part.{Part}
use Rattle.cobol_syntax.specs.declared.place.Sub.{Sub}
use Rattle.cobol_syntax.specs.declared.place.Sub.TheVariants as sub
use Rattle.cobol_syntax.specs.declared.expr.Operand.{Operand}
use Rattle.cobol_syntax.specs.declared.expr.Operand.TheVariants as operand
use Rattle.data_layout.specs.declared.item.Item.{Item}
use Rattle.data_layout.specs.declared.item.Layout.{Layout}
use Rattle.data_layout.specs.declared.found.Found.{Found}
use Rattle.data_layout.specs.declared.found.Found.TheVariants as found
use Rattle.data_layout.specs.Find.{meaning}
use Rattle.year_labels.specs.declared.rule.Rule.TheVariants as rules
use Rattle.year_labels.specs.declared.rule.RuleInst.{RuleInst}
use Rattle.date_views.specs.declared.side.Side.{Side}
use Rattle.date_views.specs.Sides.{side_of, whole_side}
use Rattle.date_views.specs.Uses.{use_rules, plain_bytes}

abbrev pub item_found : Layout → Found → Option Item
item_found layout (found.Item number) = slice_get layout.items number
item_found layout (found.Named number) = None
item_found layout found.Unknown = None
item_found layout found.Twice = None

-- the one item of a name
abbrev pub item_named : Layout → List (List ℕ) → Option Item
item_named layout names = item_found layout (meaning layout names)

-- a side, if it is one, is plain
abbrev pub use_if : Origin → Option Side → List RuleInst
use_if at None = []
use_if at (Some side) = use_rules rules.Plain at side

abbrev pub item_use : Origin → Option Item → List RuleInst
item_use at None = []
item_use at (Some item) = use_if at (whole_side item)

-- a subscript or a bound
abbrev pub sub_rules : Layout → Origin → Sub → List RuleInst
sub_rules layout at (sub.Number value place) = []
sub_rules layout at (sub.Name names) = item_use at (item_named layout names)

abbrev pub subs_rules : Layout → Origin → List Sub → List RuleInst
subs_rules layout at [] = []
subs_rules layout at (s ∷ subs) = sub_rules layout at s ++ subs_rules layout at subs

abbrev pub bound_rules : Layout → Origin → Option Sub → List RuleInst
bound_rules layout at None = []
bound_rules layout at (Some s) = sub_rules layout at s

abbrev pub is_name : Sub → Bool
is_name (sub.Number value place) = false
is_name (sub.Name names) = true

abbrev pub is_name_if : Option Sub → Bool
is_name_if None = false
is_name_if (Some s) = is_name s

abbrev pub item_bytes : Origin → Option Item → List RuleInst
item_bytes at None = []
item_bytes at (Some item) = plain_bytes rules.Plain at item.span

-- an item of which a part is taken that may stand anywhere
abbrev pub whole_rules : Layout → Origin → List (List ℕ) → Part → List RuleInst
whole_rules layout at names part =
    if is_name part.start || is_name_if part.length then item_bytes at (item_named layout names) else []

abbrev pub part_rules : Layout → Origin → List (List ℕ) → Option Part → List RuleInst
part_rules layout at names None = []
part_rules layout at names (Some part) =
    sub_rules layout at part.start ++ (bound_rules layout at part.length ++ whole_rules layout at names part)

abbrev pub place_rules : Layout → Origin → Place → List RuleInst
place_rules layout at place = subs_rules layout at place.subs ++ part_rules layout at place.names place.cut

abbrev pub operand_rules : Layout → Origin → Operand → List RuleInst
operand_rules layout at (operand.Place place) = place_rules layout at place
operand_rules layout at (operand.Number value digits word) = []
operand_rules layout at (operand.Text bytes word) = []
operand_rules layout at (operand.Figure byte word) = []

-- a literal is no side
abbrev pub operand_side : Layout → Operand → Option Side
operand_side layout (operand.Place place) = side_of layout place
operand_side layout (operand.Number value digits word) = None
operand_side layout (operand.Text bytes word) = None
operand_side layout (operand.Figure byte word) = None

-- a place in a use that no year may have
abbrev pub place_use : Layout → Origin → Place → List RuleInst
place_use layout at place = place_rules layout at place ++ use_if at (side_of layout place)

abbrev pub operand_use : Layout → Origin → Operand → List RuleInst
operand_use layout at x = operand_rules layout at x ++ use_if at (operand_side layout x)
