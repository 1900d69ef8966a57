use Rattle.std.proofs.Common.{◌≡◌, ◌++◌, replicate}
use Rattle.source_edit.proofs.line.add_blanks.Given as goal

abbrev pub invariant-loop-i : goal.invariant-loop-i
invariant-loop-i l = l.line ≡ l.initial.line ++ replicate l._i 32
