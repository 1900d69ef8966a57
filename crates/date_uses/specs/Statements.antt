-- The uses of statements.
use Rattle.std.specs.Prelude.{ℕ, false, List, [], ◌∷◌, ◌++◌, map, Option, Some, None, is_some}
use Rattle.y2k_base.specs.declared.word.Word.{Word}
use Rattle.cobol_syntax.specs.declared.place.Place.{Place}
use Rattle.cobol_syntax.specs.declared.expr.Operand.{Operand}
use Rattle.cobol_syntax.specs.declared.statement.Statement.{Statement, fold-Statement}
use Rattle.cobol_syntax.specs.declared.statement.Form.{Form, Form-F, fold-Form}
use Rattle.cobol_syntax.specs.declared.statement.Form.TheOpen as f
use Rattle.cobol_syntax.specs.declared.statement.Form.TheOpen.{Branch-F, Statement-F}
use Rattle.cobol_syntax.specs.declared.statement.Branch.{Branch, fold-Branch}
use Rattle.cobol_syntax.specs.declared.statement.Control.{Control}
use Rattle.cobol_syntax.specs.declared.statement.Control.TheVariants as k
use Rattle.cobol_syntax.specs.declared.statement.Register.{Register}
use Rattle.cobol_syntax.specs.declared.statement.Vary.{Vary}
use Rattle.data_layout.specs.declared.item.Layout.{Layout}
use Rattle.year_labels.specs.declared.label.Fact.{Fact}
use Rattle.date_views.specs.Sides.{side_of}
use Rattle.statement_rules.specs.Names.{operand_side}
use Rattle.statement_rules.specs.Statements.{file_side}
use Rattle.statement_rules.specs.Trees.{Tree, tree_of}
use Rattle.mode_links.specs.Bridges.{bridge}
use Rattle.date_uses.specs.declared.uses.DateUse.{DateUse}
use Rattle.date_uses.specs.declared.uses.MoveKind.TheVariants as kinds
use Rattle.date_uses.specs.declared.uses.UseForm.{UseForm}
use Rattle.date_uses.specs.declared.uses.UseForm.TheVariants as forms
use Rattle.date_uses.specs.declared.places.Spot.{Spot}
use Rattle.date_uses.specs.Places.{spot_of, use_at, place_used, operand_used, area_used, record_used, mention, mention_if, operand_mention, operand_mention_if}
use Rattle.date_uses.specs.Conditions.{tree_mentions, condition_uses, value_uses}

abbrev pub joined : List (List DateUse) → List DateUse
joined [] = []
joined (uses ∷ more) = uses ++ joined more

abbrev pub phrase_uses : Option (List DateUse) → List DateUse
phrase_uses None = []
phrase_uses (Some uses) = uses

abbrev pub move_uses : List Fact → Layout → Spot → Operand → Place → List DateUse
move_uses facts layout spot from to =
    use_at spot (forms.Move kinds.Statement (operand_used layout from) (place_used layout to) (bridge facts (operand_side layout from) (side_of layout to) to.subs))
    ∷ (operand_mention layout spot from ++ mention layout spot to)

-- INTO moves the record area of the file
abbrev pub into_uses : Layout → Spot → List ℕ → Option Place → List DateUse
into_uses layout spot file None = []
into_uses layout spot file (Some place) =
    use_at spot (forms.Move kinds.Into (area_used spot (file_side layout.areas file)) (place_used layout place) None)
    ∷ mention layout spot place

-- FROM moves to the record
abbrev pub from_uses : Layout → Spot → List ℕ → Option Operand → List DateUse
from_uses layout spot name None = []
from_uses layout spot name (Some x) =
    use_at spot (forms.Move kinds.From (operand_used layout x) (record_used layout spot name) None)
    ∷ operand_mention layout spot x

abbrev pub accept_uses : Layout → Spot → Place → Register → List DateUse
accept_uses layout spot to from = use_at spot (forms.Accept (place_used layout to) from) ∷ mention layout spot to

-- the places of a computation; rest is the item of REMAINDER
abbrev pub compute_mentions : Layout → Spot → Place → Option Place → Tree → List DateUse
compute_mentions layout spot to rest value =
    mention layout spot to ++ (mention_if layout spot rest ++ tree_mentions layout spot value)

-- VARYING moves FROM, and adds BY
abbrev pub varying_move : Layout → Vary → UseForm
varying_move layout vary = forms.Move kinds.Varying (operand_used layout vary.from) (place_used layout vary.item) None

abbrev pub varying_sum : Layout → Vary → UseForm
varying_sum layout vary = forms.Sum (place_used layout vary.item) (place_used layout vary.item) (operand_used layout vary.by) false

abbrev pub varied : Layout → Spot → Vary → List DateUse
varied layout spot vary =
    use_at spot (varying_move layout vary)
    ∷ (use_at spot (varying_sum layout vary)
    ∷ (mention layout spot vary.item ++ (operand_mention layout spot vary.from ++ operand_mention layout spot vary.by)))

abbrev pub vary_uses : Layout → Spot → Option Vary → List DateUse
vary_uses layout spot None = []
vary_uses layout spot (Some vary) = varied layout spot vary

abbrev pub control_uses : Layout → Spot → Control → List DateUse
control_uses layout spot k.Once = []
control_uses layout spot (k.Times count) = operand_mention layout spot count
control_uses layout spot (k.Until after test vary) = condition_uses layout spot test ++ vary_uses layout spot vary

abbrev pub operands_mentions : Layout → Spot → List Operand → List DateUse
operands_mentions layout spot [] = []
operands_mentions layout spot (x ∷ xs) = operand_mention layout spot x ++ operands_mentions layout spot xs

-- what a statement uses that stands there; those in it have their own places
abbrev pub form_layer : List Fact → Layout → Form-F (Spot → List DateUse) (List DateUse) (List DateUse) → Spot → List DateUse
form_layer facts layout (f.Move from to) spot = move_uses facts layout spot from to
form_layer facts layout (f.Compute to rounded value rest size) spot =
    value_uses layout spot to (is_some size) (tree_of value) ++ (compute_mentions layout spot to rest (tree_of value) ++ phrase_uses size)
form_layer facts layout (f.If test body other) spot = condition_uses layout spot test ++ (joined body ++ joined other)
form_layer facts layout f.NextSentence spot = []
form_layer facts layout (f.GoTo name) spot = []
form_layer facts layout f.Stop spot = []
form_layer facts layout f.Nothing spot = []
form_layer facts layout (f.Perform range body control) spot = control_uses layout spot control ++ joined body
form_layer facts layout (f.Open mode file) spot = []
form_layer facts layout (f.Close file) spot = []
form_layer facts layout (f.Read file into end) spot = into_uses layout spot file into ++ phrase_uses end
form_layer facts layout (f.Write name from advance) spot = from_uses layout spot name from ++ operand_mention_if layout spot advance
form_layer facts layout (f.Accept to from) spot = accept_uses layout spot to from
form_layer facts layout (f.Show operands) spot = operands_mentions layout spot operands

abbrev pub branch_layer : Branch-F (Spot → List DateUse) (List DateUse) (List DateUse) → List DateUse
branch_layer x = joined x.yes ++ joined x.no

abbrev pub statement_layer : ℕ → List Word → Statement-F (Spot → List DateUse) (List DateUse) (List DateUse) → List DateUse
statement_layer program words x = x.form (spot_of program words x.at)

abbrev pub statement_uses : List Fact → Layout → ℕ → List Word → Statement → List DateUse
statement_uses facts layout program words =
    fold-Statement (Spot → List DateUse) (List DateUse) (List DateUse) (form_layer facts layout) branch_layer (statement_layer program words)

abbrev pub form_uses : List Fact → Layout → ℕ → List Word → Form → Spot → List DateUse
form_uses facts layout program words =
    fold-Form (Spot → List DateUse) (List DateUse) (List DateUse) (form_layer facts layout) branch_layer (statement_layer program words)

abbrev pub branch_uses : List Fact → Layout → ℕ → List Word → Branch → List DateUse
branch_uses facts layout program words =
    fold-Branch (Spot → List DateUse) (List DateUse) (List DateUse) (form_layer facts layout) branch_layer (statement_layer program words)

abbrev pub statements_uses : List Fact → Layout → ℕ → List Word → List Statement → List DateUse
statements_uses facts layout program words statements = joined (map (statement_uses facts layout program words) statements)

abbrev pub branch_if : List Fact → Layout → ℕ → List Word → Option Branch → List DateUse
branch_if facts layout program words None = []
branch_if facts layout program words (Some branch) = branch_uses facts layout program words branch
