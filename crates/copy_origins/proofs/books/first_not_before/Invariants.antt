use Rattle.std.proofs.Common.{◌≡◌, ℕ, ◌-◌, ◌<◌, ◌≤◌, true, false, length, get_or}
use Rattle.copy_origins.specs.declared.books.Book.{Book}
use Rattle.copy_origins.specs.Keys.{is_before}
use Rattle.copy_origins.specs.Expansion.{key_of}
use Rattle.copy_origins.proofs.books.first_not_before.Given as goal

abbrev pub invariant-loop-low : goal.invariant-loop-low
invariant-loop-low l = (l.low ≤ l.high)
    × (l.high ≤ length l.books)
    × ((k : ℕ) (d : Book) → k < l.low → is_before key_of l.key (get_or l.books k d) ≡ true)
    × ((k : ℕ) (d : Book) → l.high ≤ k → k < length l.books → is_before key_of l.key (get_or l.books k d) ≡ false)

abbrev pub decreases-loop-low : goal.decreases-loop-low
decreases-loop-low l = l.high - l.low
