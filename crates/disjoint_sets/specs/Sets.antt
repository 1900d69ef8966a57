-- Disjoint sets, as a forest: each number hangs on one of its set.
use Rattle.std.specs.Prelude.{◌≡◌, ◌↔◌, ℕ, ◌<◌, ◌≤◌, Bool, List, length, slice_index}

-- each number hangs on none above it
abbrev pub IsForest : List ℕ → Type 0
IsForest parents = (k : ℕ) → k < length parents → slice_index parents k ≤ k

-- the test is the same on all numbers of a set
abbrev pub IsKept : List ℕ → (ℕ → Bool) → Type 0
IsKept parents keep = (k : ℕ) → k < length parents → keep k ≡ keep (slice_index parents k)

-- no test that is the same on each set tells the two numbers apart
abbrev pub AreTogether : List ℕ → ℕ → ℕ → Type 0
AreTogether parents i j = (keep : ℕ → Bool) → IsKept parents keep → keep i ≡ keep j

-- two numbers have one name exactly where they are of one set
pub record AreNamesOf (parents names : List ℕ) : Type 0 where
  pub long : length names ≡ length parents
  pub within : (k : ℕ) → k < length parents → slice_index names k < length parents
  pub same : (i j : ℕ) → i < length parents → j < length parents → (slice_index names i ≡ slice_index names j) ↔ AreTogether parents i j

-- the first numbers have names, each of its set, and the same as what it hangs on
pub record AreNames (parents : List ℕ) (count : ℕ) (names : List ℕ) : Type 0 where
  pub long : length names ≡ count
  pub low : (k : ℕ) → k < count → slice_index names k ≤ k
  pub held : (k : ℕ) (keep : ℕ → Bool) → k < count → IsKept parents keep → keep k ≡ keep (slice_index names k)
  pub kept : (k : ℕ) → k < count → slice_index names k ≡ slice_index names (slice_index parents k)
