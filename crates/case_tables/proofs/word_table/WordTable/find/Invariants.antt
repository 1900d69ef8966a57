use Rattle.std.proofs.Common.{◌≡◌, drop}
use Rattle.case_tables.specs.Table.{role_in}
use Rattle.case_tables.proofs.word_table.WordTable.find.Given as goal

abbrev pub invariant-loop-row : goal.invariant-loop-row
invariant-loop-row g l = role_in l.word (drop l.row-index l.self.rows) ≡ role_in l.word l.self.rows
