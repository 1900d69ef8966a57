use Rattle.std.proofs.Common.{◌≡◌, map, take}
use Rattle.label_update.specs.Named as spec
use Rattle.label_update.proofs.named.with_names.Given as goal

abbrev pub invariant-loop-i : goal.invariant-loop-i
invariant-loop-i l = l.facts.items ≡ map (spec.named_fact l.names) (take l.i l.labelling)
