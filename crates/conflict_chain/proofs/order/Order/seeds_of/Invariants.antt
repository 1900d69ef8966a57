use Rattle.std.proofs.Common.{All, Contains}
use Rattle.year_labels.specs.declared.label.Seed.{Seed}
use Rattle.conflict_chain.proofs.order.Order.seeds_of.Given as goal

abbrev pub invariant-loop-i : goal.invariant-loop-i
invariant-loop-i l = All (λ (seed : Seed). Contains l.seeds seed) l.used.items
