use Rattle.std.proofs.Common.{◌≡◌}
use Rattle.item_seeds.specs.Seeds as spec
use Rattle.item_seeds.proofs.fact.packed_bytes.Given as goal

abbrev pub invariant-loop-at : goal.invariant-loop-at
invariant-loop-at l = l.seeds ≡ spec.packed_bytes l.row l.span l.digits l.unit l.at
