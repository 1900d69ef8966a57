use Rattle.std.proofs.Common.{◌≡◌, ◌++◌, take, drop}
use Rattle.case_tables.specs.Table.{before_space}
use Rattle.case_tables.proofs.word_table.WordRow.word.Given as goal

abbrev pub invariant-loop-i : goal.invariant-loop-i
invariant-loop-i l = before_space l.self.text ≡ take l.i l.self.text ++ before_space (drop l.i l.self.text)
