-- The limits that stand at statements.
use Rattle.std.specs.Prelude.{List, [], ◌∷◌, ◌++◌, Option, Some, None, slice_get}
use Rattle.y2k_base.specs.declared.word.Origin.{Origin}
use Rattle.y2k_base.specs.declared.word.Word.{Word}
use Rattle.cobol_syntax.specs.declared.program.Program.{Program}
use Rattle.data_layout.specs.declared.item.Item.{Item}
use Rattle.data_layout.specs.declared.item.Layout.{Layout}
use Rattle.year_labels.specs.declared.label.Fact.{Fact}
use Rattle.window_modes.specs.declared.modes.YearMode.{YearMode}
use Rattle.date_uses.specs.declared.uses.UseForm.{UseForm}
use Rattle.date_uses.specs.declared.uses.UseForm.TheVariants as forms
use Rattle.date_uses.specs.declared.uses.DateUse.{DateUse}
use Rattle.plan_limits.specs.declared.limit.Limit.{Limit}
use Rattle.statement_limits.specs.Cuts.{split_limits}
use Rattle.statement_limits.specs.Numerals.{move_limits}
use Rattle.statement_limits.specs.Sums.{sum_limits}

abbrev pub form_limits : List Word → List Item → List Fact → List YearMode → Origin → UseForm → List Limit
form_limits words items facts years at (forms.Move move from to bridge) = move_limits years words items at move from to
form_limits words items facts years at (forms.Accept to from) = []
form_limits words items facts years at (forms.Compare left rel right) = []
form_limits words items facts years at (forms.Class of numeric) = []
form_limits words items facts years at (forms.Sum to left right size) = sum_limits facts words at to left right
form_limits words items facts years at (forms.Difference to left right size) = sum_limits facts words at to left right
form_limits words items facts years at (forms.Value item of) = []
form_limits words items facts years at (forms.Range item low high) = []
form_limits words items facts years at (forms.Mention of) = split_limits years at of

abbrev pub limits_among : Option Program → Option Layout → List Fact → List YearMode → DateUse → List Limit
limits_among None layout facts years one = []
limits_among (Some program) None facts years one = []
limits_among (Some program) (Some layout) facts years one = form_limits program.words layout.items facts years one.at one.form

-- the limits of a use in one of the programs
abbrev pub use_limits : List Program → List Layout → List Fact → List YearMode → DateUse → List Limit
use_limits programs layouts facts years one = limits_among (slice_get programs one.program) (slice_get layouts one.program) facts years one

-- those of sums are in the order of the uses, and those of a sum in that of its operands
abbrev pub statement_limits : List Program → List Layout → List Fact → List YearMode → List DateUse → List Limit
statement_limits programs layouts facts years [] = []
statement_limits programs layouts facts years (one ∷ uses) =
    use_limits programs layouts facts years one ++ statement_limits programs layouts facts years uses
