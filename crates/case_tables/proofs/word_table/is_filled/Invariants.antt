use Rattle.std.proofs.Common.{◌≡◌, length}
use Rattle.std.specs.Str.{bytes_eq}
use Rattle.case_tables.specs.Table.{before_space}
use Rattle.case_tables.proofs.word_table.is_filled.Given as goal

abbrev pub invariant-loop-text : goal.invariant-loop-text
invariant-loop-text l = bytes_eq (before_space l.text) l.word ≡ bytes_eq (before_space l.initial.text) l.initial.word

abbrev pub decreases-loop-text : goal.decreases-loop-text
decreases-loop-text l = length l.text
