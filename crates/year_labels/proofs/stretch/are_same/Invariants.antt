use Rattle.std.proofs.Common.{◌≡◌, ℕ, ◌<◌, get_or}
use Rattle.year_labels.specs.declared.label.Label.{Label}
use Rattle.year_labels.proofs.stretch.are_same.Given as goal

abbrev pub invariant-loop-i : goal.invariant-loop-i
invariant-loop-i l = (k : ℕ) (d : Label) → k < l.i → get_or l.first k d ≡ get_or l.second k d
