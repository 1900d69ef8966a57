use Rattle.std.proofs.Common.{◌≡◌, length, map}
use Rattle.cond_reader.specs.Table.{value_of}
use Rattle.cond_reader.proofs.table.value_of.Given as goal

abbrev pub invariant-loop-rows : goal.invariant-loop-rows
invariant-loop-rows g l = value_of (map (λ row. (row.0.now, row.1)) l.rows) l.word ≡ value_of (map (λ row. (row.0.now, row.1)) l.initial.rows) l.word

abbrev pub decreases-loop-rows : goal.decreases-loop-rows
decreases-loop-rows g l = length l.rows
