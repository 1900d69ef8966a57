use Rattle.std.proofs.Common.{All, take, ◌≤◌}
use Rattle.year_labels.specs.declared.label.Fact.{Fact}
use Rattle.convert_plan.proofs.modes.are_in_areas.Given as goal

abbrev pub invariant-loop-index : goal.invariant-loop-index
invariant-loop-index l = All (λ (f : Fact). f.place.offset ≤ 65535) (take l.index l.labelling)
