use Rattle.std.proofs.Common.{All}
use Rattle.year_labels.specs.Forms.{IsFit}
use Rattle.window_modes.proofs.tests.links.Given as goal

abbrev pub invariant-loop-i : goal.invariant-loop-i
invariant-loop-i l = All IsFit l.links.items
