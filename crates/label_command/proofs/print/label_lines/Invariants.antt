use Rattle.std.proofs.Common.{◌≡◌, take}
use Rattle.label_command.specs.Lines.{lines_of}
use Rattle.label_command.proofs.print.label_lines.Given as goal

abbrev pub invariant-loop-i : goal.invariant-loop-i
invariant-loop-i l = l.text ≡ lines_of l.areas (take l.i l.labelling)
