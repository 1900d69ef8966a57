-- The rules of statements.
use Rattle.std.specs.Prelude.{ℕ, Bool, true, false, ◌&&◌, bytes_eq, List, [], ◌∷◌, ◌++◌, map, Option, Some, None, slice_get, if◌then◌else◌}
use Rattle.std.specs.Option.{option_map}
use Rattle.y2k_base.specs.declared.place.Span.{Span}
use Rattle.y2k_base.specs.declared.word.Origin.{Origin}
use Rattle.y2k_base.specs.declared.word.Word.{Word}
use Rattle.cobol_syntax.specs.declared.place.Place.{Place}
use Rattle.cobol_syntax.specs.declared.expr.Operand.{Operand}
use Rattle.cobol_syntax.specs.declared.statement.Statement.{Statement, fold-Statement}
use Rattle.cobol_syntax.specs.declared.statement.Form.{Form, Form-F, fold-Form}
use Rattle.cobol_syntax.specs.declared.statement.Form.TheOpen as f
use Rattle.cobol_syntax.specs.declared.statement.Form.TheOpen.{Branch-F, Statement-F}
use Rattle.cobol_syntax.specs.declared.statement.Branch.{Branch, fold-Branch}
use Rattle.cobol_syntax.specs.declared.statement.Control.{Control}
use Rattle.cobol_syntax.specs.declared.statement.Control.TheVariants as k
use Rattle.cobol_syntax.specs.declared.statement.Register.{Register}
use Rattle.cobol_syntax.specs.declared.statement.Vary.{Vary}
use Rattle.data_layout.specs.declared.item.Item.{Item}
use Rattle.data_layout.specs.declared.item.Area.{Area}
use Rattle.data_layout.specs.declared.item.Layout.{Layout}
use Rattle.year_labels.specs.declared.rule.RuleInst.{RuleInst}
use Rattle.date_views.specs.declared.side.Side.{Side}
use Rattle.date_views.specs.Sides.{side_of, area_side}
use Rattle.date_views.specs.Moves.{copy_rules, move_rules, register_rules}
use Rattle.date_views.specs.Sums.{sum_rules}
use Rattle.statement_rules.specs.Trees.{tree_of}
use Rattle.statement_rules.specs.Names.{item_named, place_rules, operand_rules, operand_side, place_use, operand_use}
use Rattle.statement_rules.specs.Conditions.{condition_rules, value_rules}

-- where a word stands; each position of a tree has a word
abbrev pub origin_of : Option Word → Origin
origin_of None = record { file = record { 0 = 0 }; line = 0; column = 0 }
origin_of (Some word) = word.origin

abbrev pub origin_at : List Word → ℕ → Origin
origin_at words at = origin_of (slice_get words at)

abbrev pub joined : List (List RuleInst) → List RuleInst
joined [] = []
joined (rules ∷ more) = rules ++ joined more

abbrev pub move_if : Origin → Option Side → Option Side → List RuleInst
move_if at (Some from) (Some to) = move_rules at from to
move_if at (Some from) None = []
move_if at None to = []

abbrev pub copy_if : Origin → Option Side → Option Side → List RuleInst
copy_if at (Some from) (Some to) = copy_rules at from to
copy_if at (Some from) None = []
copy_if at None to = []

abbrev pub move_statement : Layout → Origin → Operand → Place → List RuleInst
move_statement layout at from to =
    operand_rules layout at from ++ (place_rules layout at to ++ move_if at (operand_side layout from) (side_of layout to))

-- the item of REMAINDER is plain
abbrev pub rest_rules : Layout → Origin → Option Place → List RuleInst
rest_rules layout at None = []
rest_rules layout at (Some place) = place_use layout at place

abbrev pub compute_statement : Layout → Origin → Place → Option Place → List RuleInst → List RuleInst
compute_statement layout at to rest value = place_rules layout at to ++ (rest_rules layout at rest ++ value)

abbrev pub has_name : List ℕ → Option (List ℕ) → Bool
has_name name None = false
has_name name (Some own) = bytes_eq own name

abbrev pub is_area_of : List ℕ → Area → Bool
is_area_of name area = area.file && has_name name area.name

abbrev pub area_span : Area → Span
area_span area = record { area = area.id; offset = 0; length = area.length }

-- the record area of a file
abbrev pub file_side : List Area → List ℕ → Option Side
file_side [] name = None
file_side (area ∷ areas) name = if is_area_of name area then Some (area_side (area_span area)) else file_side areas name

abbrev pub group_side : Option Item → Option Side
group_side None = None
group_side (Some item) = Some (area_side item.span)

-- the record that WRITE names
abbrev pub record_side : Layout → List ℕ → Option Side
record_side layout name = group_side (item_named layout (name ∷ []))

-- INTO moves the record area as a group
abbrev pub into_rules : Layout → Origin → List ℕ → Option Place → List RuleInst
into_rules layout at file None = []
into_rules layout at file (Some place) = place_rules layout at place ++ copy_if at (file_side layout.areas file) (side_of layout place)

-- FROM moves its operand as to a group
abbrev pub from_rules : Layout → Origin → List ℕ → Option Operand → List RuleInst
from_rules layout at name None = []
from_rules layout at name (Some x) = operand_rules layout at x ++ copy_if at (operand_side layout x) (record_side layout name)

-- a count is plain
abbrev pub count_rules : Layout → Origin → Option Operand → List RuleInst
count_rules layout at None = []
count_rules layout at (Some x) = operand_use layout at x

abbrev pub accept_if : Origin → Register → Option Side → List RuleInst
accept_if at from None = []
accept_if at from (Some to) = register_rules at from to

abbrev pub accept_statement : Layout → Origin → Register → Place → List RuleInst
accept_statement layout at from to = place_rules layout at to ++ accept_if at from (side_of layout to)

abbrev pub all_operands : Layout → Origin → List Operand → List RuleInst
all_operands layout at [] = []
all_operands layout at (x ∷ xs) = operand_rules layout at x ++ all_operands layout at xs

-- VARYING moves FROM, and adds BY
abbrev pub varied : Layout → Origin → Vary → List RuleInst
varied layout at vary =
    place_rules layout at vary.item
    ++ (operand_rules layout at vary.from
    ++ (operand_rules layout at vary.by
    ++ (move_if at (operand_side layout vary.from) (side_of layout vary.item)
    ++ sum_rules at (side_of layout vary.item) (operand_side layout vary.by) (side_of layout vary.item))))

abbrev pub vary_rules : Layout → Origin → Option Vary → List RuleInst
vary_rules layout at None = []
vary_rules layout at (Some vary) = varied layout at vary

abbrev pub control_rules : Layout → Origin → Control → List RuleInst
control_rules layout at k.Once = []
control_rules layout at (k.Times count) = operand_use layout at count
control_rules layout at (k.Until after test vary) = condition_rules layout at test ++ vary_rules layout at vary

abbrev pub phrase_rules : Option (List RuleInst) → List RuleInst
phrase_rules None = []
phrase_rules (Some rules) = rules

-- what a statement gives at a place of the text; those in it have their own places
abbrev pub form_layer : Layout → Form-F (Origin → List RuleInst) (List RuleInst) (List RuleInst) → Origin → List RuleInst
form_layer layout (f.Move from to) at = move_statement layout at from to
form_layer layout (f.Compute to rounded value rest size) at =
    compute_statement layout at to rest (value_rules layout at to (tree_of value)) ++ phrase_rules size
form_layer layout (f.If test body other) at = condition_rules layout at test ++ (joined body ++ joined other)
form_layer layout f.NextSentence at = []
form_layer layout (f.GoTo name) at = []
form_layer layout f.Stop at = []
form_layer layout f.Nothing at = []
form_layer layout (f.Perform range body control) at = control_rules layout at control ++ joined body
form_layer layout (f.Open mode file) at = []
form_layer layout (f.Close file) at = []
form_layer layout (f.Read file into end) at = into_rules layout at file into ++ phrase_rules end
form_layer layout (f.Write name from advance) at = from_rules layout at name from ++ count_rules layout at advance
form_layer layout (f.Accept to from) at = accept_statement layout at from to
form_layer layout (f.Show operands) at = all_operands layout at operands

abbrev pub branch_layer : Branch-F (Origin → List RuleInst) (List RuleInst) (List RuleInst) → List RuleInst
branch_layer x = joined x.yes ++ joined x.no

abbrev pub statement_layer : List Word → Statement-F (Origin → List RuleInst) (List RuleInst) (List RuleInst) → List RuleInst
statement_layer words x = x.form (origin_at words x.at)

abbrev pub statement_rules : Layout → List Word → Statement → List RuleInst
statement_rules layout words =
    fold-Statement (Origin → List RuleInst) (List RuleInst) (List RuleInst) (form_layer layout) branch_layer (statement_layer words)

abbrev pub form_rules : Layout → List Word → Form → Origin → List RuleInst
form_rules layout words =
    fold-Form (Origin → List RuleInst) (List RuleInst) (List RuleInst) (form_layer layout) branch_layer (statement_layer words)

abbrev pub branch_rules : Layout → List Word → Branch → List RuleInst
branch_rules layout words =
    fold-Branch (Origin → List RuleInst) (List RuleInst) (List RuleInst) (form_layer layout) branch_layer (statement_layer words)

abbrev pub statements_rules : Layout → List Word → List Statement → List RuleInst
statements_rules layout words statements = joined (map (statement_rules layout words) statements)

abbrev pub branch_if : Layout → List Word → Option Branch → List RuleInst
branch_if layout words None = []
branch_if layout words (Some branch) = branch_rules layout words branch
