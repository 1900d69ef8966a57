-- Parts that begin, beside a loop that counts its turns up.
use Rattle.std.specs.Prelude.{Result, Ok, Err, Bool, true, false, if◌then◌else◌}
use Rattle.std.proofs.Common.{◌≡◌, ℕ, suc, ◌+◌, ◌-◌, ◌<◌, ◌≤◌, refl, ap, sym, ◌∙◌, arith}
use Rattle.program_reader.specs.declared.fault.Refused.{Refused}
use Rattle.program_reader.specs.Programs.{so, each}

module _ {A : Type 0} (begins : ℕ → Bool) (next : A → ℕ → Result (A × ℕ) Refused) where
  turn : (n : ℕ) (a : A) (i : ℕ)
      → each begins next (suc n) a i ≡ (if begins i then so (next a i) (λ b j. each begins next n b j) else Ok (a, i))
  unfolding each
  turn n a i = refl

  none : (a : A) (i : ℕ) → each begins next 0 a i ≡ Ok (a, i)
  unfolding each
  none a i = refl

  begun : (n k : ℕ) (a : A) (i : ℕ) → k < n → begins i ≡ true
      → each begins next (n - k) a i ≡ so (next a i) (λ b j. each begins next (n - (k + 1)) b j)
  begun n k a i lt is =
      let turns : n - k ≡ suc (n - (k + 1)) = omega arith in
      ap (λ m. each begins next m a i) turns ∙ turn (n - (k + 1)) a i
      ∙ ap (λ (c : Bool). if c then so (next a i) (λ b j. each begins next (n - (k + 1)) b j) else Ok (a, i)) is

  pub each_taken : {x : Result (A × ℕ) Refused} (n k : ℕ) (a : A) (i : ℕ) (b : A) (j : ℕ) → x ≡ each begins next (n - k) a i → k < n
      → begins i ≡ true → next a i ≡ Ok (b, j) → x ≡ each begins next (n - (k + 1)) b j
  each_taken n k a i b j e lt is read =
      e ∙ begun n k a i lt is ∙ ap (λ (r : Result (A × ℕ) Refused). so r (λ c m. each begins next (n - (k + 1)) c m)) read

  pub each_refused : {x : Result (A × ℕ) Refused} (n k : ℕ) (a : A) (i : ℕ) (refused : Refused) → x ≡ each begins next (n - k) a i → k < n
      → begins i ≡ true → next a i ≡ Err refused → Err refused ≡ x
  each_refused n k a i refused e lt is read =
      sym (e ∙ begun n k a i lt is ∙ ap (λ (r : Result (A × ℕ) Refused). so r (λ c m. each begins next (n - (k + 1)) c m)) read)

  pub each_ended : {x : Result (A × ℕ) Refused} (n k : ℕ) (a : A) (i : ℕ) → x ≡ each begins next (n - k) a i → k < n
      → begins i ≡ false → Ok (a, i) ≡ x
  each_ended n k a i e lt is =
      let turns : n - k ≡ suc (n - (k + 1)) = omega arith in
      sym (e ∙ ap (λ m. each begins next m a i) turns ∙ turn (n - (k + 1)) a i
      ∙ ap (λ (c : Bool). if c then so (next a i) (λ b j. each begins next (n - (k + 1)) b j) else Ok (a, i)) is)

  pub each_over : {x : Result (A × ℕ) Refused} (n k : ℕ) (a : A) (i : ℕ) → x ≡ each begins next (n - k) a i → n ≤ k → Ok (a, i) ≡ x
  each_over n k a i e over =
      let spent : n - k ≡ 0 = omega arith in
      sym (e ∙ ap (λ m. each begins next m a i) spent ∙ none a i)
