use Rattle.std.proofs.Common.{◌≡◌, ℕ, ◌<◌, get_or}
use Rattle.year_labels.specs.declared.label.Seed.{Seed}
use Rattle.conflict_chain.proofs.chain.is_seed.Given as goal

abbrev pub invariant-loop-i : goal.invariant-loop-i
invariant-loop-i l = (k : ℕ) (d : Seed) → k < l.i → get_or l.seeds k d ≡ record { fact = l.fact; row = l.row } → ⊥
