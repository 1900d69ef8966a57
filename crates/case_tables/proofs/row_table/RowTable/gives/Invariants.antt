use Rattle.std.proofs.Common.{◌≡◌, ℕ, ◌<◌, get_or}
use Rattle.case_tables.specs.declared.row_table.Row.{Row}
use Rattle.case_tables.specs.Rows.{Fires}
use Rattle.case_tables.proofs.row_table.RowTable.gives.Given as goal

-- no row before gives it
abbrev pub invariant-loop-i : goal.invariant-loop-i
invariant-loop-i g l = (k : ℕ) (d : Row) → k < l.i → Fires l.known (get_or l.self.rows k d) × ((get_or l.self.rows k d).gives ≡ l.test) → ⊥
