use Rattle.std.proofs.Common.{◌≡◌, ◌<◌, ℕ, length, get_or}
use Rattle.disjoint_sets.proofs.sets.DisjointSets.new.Given as goal

abbrev pub invariant-loop-number : goal.invariant-loop-number
invariant-loop-number l = record {
  long : length l.parents.items ≡ l.number;
  own : (k : ℕ) → k < l.number → get_or l.parents.items k 0 ≡ k;
}
