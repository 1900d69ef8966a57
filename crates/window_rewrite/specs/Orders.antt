-- Comparisons that are of order, and of years with a window.
use Rattle.std.specs.Prelude.{ℕ, Bool, false, List, Option, Some, None, is_some}
use Rattle.cobol_syntax.specs.declared.expr.Operand.{Operand}
use Rattle.cobol_syntax.specs.declared.cond.Rel.{Rel}
use Rattle.cobol_syntax.specs.declared.cond.Rel.TheVariants as rel
use Rattle.statement_rules.specs.Trees.{Tree}
use Rattle.window_modes.specs.declared.modes.YearMode.{YearMode}
use Rattle.date_uses.specs.declared.uses.Used.{Used}
use Rattle.date_uses.specs.Places.{operand_used}
use Rattle.date_uses.specs.Conditions.{pair}
use Rattle.window_dates.specs.declared.window.WindowedYear.{WindowedYear}
use Rattle.window_dates.specs.Windows.{window_of}
use Rattle.window_rewrite.specs.Old.{Old}

abbrev pub pivot_of : Option WindowedYear → Option ℕ
pivot_of None = None
pivot_of (Some year) = Some year.pivot

-- an equality has none
abbrev pub order_pivot : List YearMode → Used → Rel → Used → Option ℕ
order_pivot modes x rel.Equal y = None
order_pivot modes x rel.Less y = pivot_of (window_of modes x y)
order_pivot modes x rel.Greater y = pivot_of (window_of modes x y)

abbrev pub is_windowed_pair : Old → Rel → Option (Operand × Operand) → Bool
is_windowed_pair old rel None = false
is_windowed_pair old rel (Some two) = is_some (order_pivot old.modes (operand_used old.layout two.0) rel (operand_used old.layout two.1))

-- a relation of order of two operands with a windowed year
abbrev pub is_windowed : Old → Tree → Rel → Tree → Bool
is_windowed old s rel t = is_windowed_pair old rel (pair s t)
