-- Turns beside a loop that counts them up.
use Rattle.std.proofs.Common.{◌≡◌, ℕ, suc, ◌+◌, ◌-◌, ◌<◌, ◌≤◌, Option, Some, None, refl, ap, sym, ◌∙◌, arith}
use Rattle.proc_reader.specs.declared.spot.Spot.{Spot}
use Rattle.proc_reader.specs.Reading.{Turn, over, goes_on, unread, after_turn, repeated}

module _ {A : Type 0} (turn : A → Spot → Turn A) where
  one_turn : (n : ℕ) (a : A) (s : Spot) → repeated turn (suc n) a s ≡ after_turn (repeated turn n) a s (turn a s)
  unfolding repeated
  one_turn n a s = refl

  no_turn : (a : A) (s : Spot) → repeated turn 0 a s ≡ None
  unfolding repeated
  no_turn a s = refl

  by_turn : {x : Option (A × Spot)} (n k : ℕ) (a : A) (s : Spot) (r : Turn A) → x ≡ repeated turn (n - k) a s → k < n → turn a s ≡ r
      → x ≡ after_turn (repeated turn (n - (k + 1))) a s r
  by_turn n k a s r e lt is =
      let turns : n - k ≡ suc (n - (k + 1)) = omega arith in
      e ∙ ap (λ m. repeated turn m a s) turns ∙ one_turn (n - (k + 1)) a s ∙ ap (λ q. after_turn (repeated turn (n - (k + 1))) a s q) is

  pub turn_goes_on : {x : Option (A × Spot)} (n k : ℕ) (a : A) (s : Spot) (b : A) (next : Spot) → x ≡ repeated turn (n - k) a s → k < n
      → turn a s ≡ goes_on b next → x ≡ repeated turn (n - (k + 1)) b next
  turn_goes_on n k a s b next e lt is = by_turn n k a s (goes_on b next) e lt is

  pub turn_over : {x : Option (A × Spot)} (n k : ℕ) (a : A) (s : Spot) → x ≡ repeated turn (n - k) a s → k < n → turn a s ≡ over → x ≡ Some (a, s)
  turn_over n k a s e lt is = by_turn n k a s over e lt is

  pub turn_unread : {x : Option (A × Spot)} (n k : ℕ) (a : A) (s : Spot) → x ≡ repeated turn (n - k) a s → k < n → turn a s ≡ unread → x ≡ None
  turn_unread n k a s e lt is = by_turn n k a s unread e lt is

  pub turns_past : {x : Option (A × Spot)} (n k : ℕ) (a : A) (s : Spot) → x ≡ repeated turn (n - k) a s → n ≤ k → x ≡ None
  turns_past n k a s e past = let none : n - k ≡ 0 = omega arith in e ∙ ap (λ m. repeated turn m a s) none ∙ no_turn a s
