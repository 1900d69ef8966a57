use Rattle.std.proofs.Common.{ℕ, ◌<◌, get_or}
use Rattle.case_tables.specs.declared.row_table.Row.{Row}
use Rattle.year_labels.specs.Operands.{IsByRow}
use Rattle.conflict_chain.specs.Named.{named}
use Rattle.conflict_chain.proofs.follows.is_by_rows.Given as goal

abbrev pub invariant-loop-i : goal.invariant-loop-i
invariant-loop-i l = (k : ℕ) (d : Row) → k < l.i → IsByRow l.a l.b l.c (get_or l.rows k d) (named l.steps l.from) l.fact → ⊥
