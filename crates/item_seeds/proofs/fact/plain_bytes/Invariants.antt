use Rattle.std.proofs.Common.{◌≡◌}
use Rattle.item_seeds.specs.Seeds as spec
use Rattle.item_seeds.proofs.fact.plain_bytes.Given as goal

abbrev pub invariant-loop-at : goal.invariant-loop-at
invariant-loop-at l = l.seeds ≡ spec.plain_bytes l.row l.span l.at
