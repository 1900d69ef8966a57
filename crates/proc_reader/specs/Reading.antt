-- What reading answers, and how parts follow one another.
use Rattle.std.specs.Prelude.{◌≡◌, ℕ, zero, suc, Option, Some, None}
use Rattle.proc_reader.specs.declared.spot.Spot.{Spot}
use Rattle.proc_reader.specs.declared.spot.Stop.{Stop}
use Rattle.proc_reader.specs.declared.spot.Stop.TheVariants as stop

-- a stop where nothing is read; where memory is wanting it says nothing
abbrev pub IsUnread : {A : Type 0} → Option A → Stop → Type 0
IsUnread r stop.Unread = r ≡ None
IsUnread r stop.Memory = Unit {0}

-- one word, and then what follows it
abbrev pub word_then : {B : Type 0} → Option ℕ → (ℕ → Option B) → Option B
word_then None f = None
word_then (Some i) f = f i

-- one part, and then what depends on it and stands after it
abbrev pub and_then : {A S B : Type 0} → Option (A × S) → (A → S → Option B) → Option B
and_then None f = None
and_then (Some r) f = f r.0 r.1

-- one turn of a repetition: it is over before this place, it goes on, or the words have no reading
pub data Turn (A : Type 0) : Type 0 where
  over : Turn A
  goes_on : A → Spot → Turn A
  unread : Turn A

abbrev pub after_turn : {A : Type 0} → (A → Spot → Option (A × Spot)) → A → Spot → Turn A → Option (A × Spot)
after_turn rest a s over = Some (a, s)
after_turn rest a s (goes_on b next) = rest b next
after_turn rest a s unread = None

-- Turns until it is over. The number bounds them; as each turn takes a word, it is never met.
unfoldable pub repeated : {A : Type 0} → (A → Spot → Turn A) → ℕ → A → Spot → Option (A × Spot)
repeated turn zero a s = None
repeated turn (suc n) a s = after_turn (repeated turn n) a s (turn a s)

-- a place and the number of the next statement
abbrev pub spot : ℕ → ℕ → Spot
spot i number = record { at = i; number = number }
