use Rattle.std.proofs.Common.{◌≡◌, ◌↔◌, ◌<◌, ℕ, Bool, length, get_or}
use Rattle.disjoint_sets.specs.Sets.{IsForest, IsKept}
use Rattle.disjoint_sets.proofs.forest.find_root.Given as goal

abbrev pub invariant-loop-parents : goal.invariant-loop-parents
invariant-loop-parents l = record {
  forest : IsForest l.parents;
  roots : (k : ℕ) → get_or l.fn.parents k 0 ≡ k → get_or l.parents k 0 ≡ k;
  within : l.at < length l.parents;
  same : (keep : ℕ → Bool) → IsKept l.parents keep ↔ IsKept l.fn.parents keep;
  held : (keep : ℕ → Bool) → IsKept l.fn.parents keep → keep l.number ≡ keep l.at;
}

abbrev pub decreases-loop-parents : goal.decreases-loop-parents
decreases-loop-parents l = l.at
