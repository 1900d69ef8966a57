-- The links of statements.
use Rattle.std.specs.Prelude.{ℕ, List, [], ◌++◌, map, Option, Some, None, is_some, if◌then◌else◌}
use Rattle.y2k_base.specs.declared.word.Origin.{Origin}
use Rattle.y2k_base.specs.declared.word.Word.{Word}
use Rattle.cobol_syntax.specs.declared.place.Place.{Place}
use Rattle.cobol_syntax.specs.declared.place.Sub.{Sub}
use Rattle.cobol_syntax.specs.declared.expr.Operand.{Operand}
use Rattle.cobol_syntax.specs.declared.statement.Statement.{Statement, fold-Statement}
use Rattle.cobol_syntax.specs.declared.statement.Form.{Form, Form-F, fold-Form}
use Rattle.cobol_syntax.specs.declared.statement.Form.TheOpen as f
use Rattle.cobol_syntax.specs.declared.statement.Form.TheOpen.{Branch-F, Statement-F}
use Rattle.cobol_syntax.specs.declared.statement.Branch.{Branch, fold-Branch}
use Rattle.cobol_syntax.specs.declared.statement.Control.{Control}
use Rattle.cobol_syntax.specs.declared.statement.Control.TheVariants as k
use Rattle.cobol_syntax.specs.declared.statement.Vary.{Vary}
use Rattle.data_layout.specs.declared.item.Layout.{Layout}
use Rattle.year_labels.specs.declared.label.Fact.{Fact}
use Rattle.year_labels.specs.declared.rule.RuleInst.{RuleInst}
use Rattle.date_views.specs.declared.side.Side.{Side}
use Rattle.date_views.specs.Sides.{side_of}
use Rattle.date_views.specs.Sums.{sum_rules}
use Rattle.statement_rules.specs.Trees.{tree_of}
use Rattle.statement_rules.specs.Names.{operand_side}
use Rattle.statement_rules.specs.Statements.{origin_at, joined, phrase_rules, move_if, copy_if, file_side, record_side}
use Rattle.mode_links.specs.Bridges.{bridge}
use Rattle.mode_links.specs.Conditions.{condition_links, value_links}

-- a move links, unless it is bridged
abbrev pub moved : List Fact → Origin → Option Side → Option Side → List Sub → List RuleInst
moved facts at from to subs = if is_some (bridge facts from to subs) then [] else move_if at from to

abbrev pub move_links : List Fact → Layout → Origin → Operand → Place → List RuleInst
move_links facts layout at from to = moved facts at (operand_side layout from) (side_of layout to) to.subs

-- INTO moves the record area as a group
abbrev pub into_links : Layout → Origin → List ℕ → Option Place → List RuleInst
into_links layout at file None = []
into_links layout at file (Some place) = copy_if at (file_side layout.areas file) (side_of layout place)

-- FROM moves its operand as to a group
abbrev pub from_links : Layout → Origin → List ℕ → Option Operand → List RuleInst
from_links layout at name None = []
from_links layout at name (Some x) = copy_if at (operand_side layout x) (record_side layout name)

-- VARYING moves FROM, which is never bridged, and adds BY
abbrev pub varied : Layout → Origin → Vary → List RuleInst
varied layout at vary =
    move_if at (operand_side layout vary.from) (side_of layout vary.item)
    ++ sum_rules at (side_of layout vary.item) (operand_side layout vary.by) (side_of layout vary.item)

abbrev pub vary_links : Layout → Origin → Option Vary → List RuleInst
vary_links layout at None = []
vary_links layout at (Some vary) = varied layout at vary

abbrev pub control_links : Layout → Origin → Control → List RuleInst
control_links layout at k.Once = []
control_links layout at (k.Times count) = []
control_links layout at (k.Until after test vary) = condition_links layout at test ++ vary_links layout at vary

-- what a statement gives at a place of the text; those in it have their own places
abbrev pub form_layer : List Fact → Layout → Form-F (Origin → List RuleInst) (List RuleInst) (List RuleInst) → Origin → List RuleInst
form_layer facts layout (f.Move from to) at = move_links facts layout at from to
form_layer facts layout (f.Compute to rounded value rest size) at = value_links layout at to (tree_of value) ++ phrase_rules size
form_layer facts layout (f.If test body other) at = condition_links layout at test ++ (joined body ++ joined other)
form_layer facts layout f.NextSentence at = []
form_layer facts layout (f.GoTo name) at = []
form_layer facts layout f.Stop at = []
form_layer facts layout f.Nothing at = []
form_layer facts layout (f.Perform range body control) at = control_links layout at control ++ joined body
form_layer facts layout (f.Open mode file) at = []
form_layer facts layout (f.Close file) at = []
form_layer facts layout (f.Read file into end) at = into_links layout at file into ++ phrase_rules end
form_layer facts layout (f.Write name from advance) at = from_links layout at name from
form_layer facts layout (f.Accept to from) at = []
form_layer facts layout (f.Show operands) at = []

abbrev pub branch_layer : Branch-F (Origin → List RuleInst) (List RuleInst) (List RuleInst) → List RuleInst
branch_layer x = joined x.yes ++ joined x.no

abbrev pub statement_layer : List Word → Statement-F (Origin → List RuleInst) (List RuleInst) (List RuleInst) → List RuleInst
statement_layer words x = x.form (origin_at words x.at)

abbrev pub statement_links : List Fact → Layout → List Word → Statement → List RuleInst
statement_links facts layout words =
    fold-Statement (Origin → List RuleInst) (List RuleInst) (List RuleInst) (form_layer facts layout) branch_layer (statement_layer words)

abbrev pub form_links : List Fact → Layout → List Word → Form → Origin → List RuleInst
form_links facts layout words =
    fold-Form (Origin → List RuleInst) (List RuleInst) (List RuleInst) (form_layer facts layout) branch_layer (statement_layer words)

abbrev pub branch_links : List Fact → Layout → List Word → Branch → List RuleInst
branch_links facts layout words =
    fold-Branch (Origin → List RuleInst) (List RuleInst) (List RuleInst) (form_layer facts layout) branch_layer (statement_layer words)

abbrev pub statements_links : List Fact → Layout → List Word → List Statement → List RuleInst
statements_links facts layout words statements = joined (map (statement_links facts layout words) statements)

abbrev pub branch_if : List Fact → Layout → List Word → Option Branch → List RuleInst
branch_if facts layout words None = []
branch_if facts layout words (Some branch) = branch_links facts layout words branch
