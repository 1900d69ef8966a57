use Rattle.std.proofs.Common.{◌≡◌, true, replicate}
use Rattle.item_seeds.proofs.fact.all_places.Given as goal

abbrev pub invariant-loop : goal.invariant-loop
invariant-loop l = l.places ≡ replicate l.counter true
