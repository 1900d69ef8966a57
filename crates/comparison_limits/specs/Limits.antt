-- The limits of comparisons, and of sums and moves between windowed years.
use Rattle.std.specs.Prelude.{List, [], ◌∷◌, ◌++◌, Option, Some, None, slice_get, if◌then◌else◌}
use Rattle.y2k_base.specs.declared.word.Origin.{Origin}
use Rattle.y2k_base.specs.declared.word.Word.{Word}
use Rattle.cobol_syntax.specs.declared.cond.Rel.{Rel}
use Rattle.cobol_syntax.specs.declared.program.Program.{Program}
use Rattle.window_modes.specs.declared.modes.YearMode.{YearMode}
use Rattle.date_uses.specs.declared.uses.DateUse.{DateUse}
use Rattle.date_uses.specs.declared.uses.Used.{Used}
use Rattle.date_uses.specs.declared.uses.UseForm.{UseForm}
use Rattle.date_uses.specs.declared.uses.UseForm.TheVariants as form
use Rattle.plan_limits.specs.declared.limit.Limit.{Limit}
use Rattle.comparison_limits.specs.Orders.{is_order, order_limits}
use Rattle.comparison_limits.specs.Ranges.{range_limits, class_limits}
use Rattle.comparison_limits.specs.Unlike.{number_limits, bridge_limits, size_limits}

abbrev pub order_if : List Word → List YearMode → Origin → Used → Rel → Used → List Limit
order_if words modes at left rel right = if is_order rel then order_limits words modes at left right else []

abbrev pub form_limits : List Word → List YearMode → Origin → UseForm → List Limit
form_limits words modes at (form.Move kind from to bridge) = bridge_limits modes at bridge
form_limits words modes at (form.Accept to from) = []
form_limits words modes at (form.Compare left rel right) = order_if words modes at left rel right ++ number_limits modes at left right
form_limits words modes at (form.Class of numeric) = class_limits modes at of numeric
form_limits words modes at (form.Sum to left right size) = size_limits modes at to left right size
form_limits words modes at (form.Difference to left right size) = size_limits modes at to left right size
form_limits words modes at (form.Value item of) = []
form_limits words modes at (form.Range item low high) = range_limits words modes at item low high
form_limits words modes at (form.Mention of) = []

abbrev pub words_of : Option Program → List Word
words_of None = []
words_of (Some program) = program.words

-- the limits of a use in its program
abbrev pub use_limits : List Program → List YearMode → DateUse → List Limit
use_limits programs modes use_of = form_limits (words_of (slice_get programs use_of.program)) modes use_of.at use_of.form

-- those of all uses
abbrev pub comparison_limits : List Program → List YearMode → List DateUse → List Limit
comparison_limits programs modes [] = []
comparison_limits programs modes (use_of ∷ uses) = use_limits programs modes use_of ++ comparison_limits programs modes uses
