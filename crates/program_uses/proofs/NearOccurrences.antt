-- Occurrences that lie before a stretch, or behind it, have none of its bytes.
use Rattle.std.proofs.Common.{ℕ, zero, suc, ◌+◌, ◌-◌, ◌*◌, ◌^◌, ◌<◌, ◌≤◌, nat_lt, ◌≡◌, refl, sym, ap, ◌∙◌, Bool, true, false, List, [], ◌∷◌, inl, inr, Option, Some, None, IfSome, MatchOption, if◌then◌else◌, arith}
use Rattle.std.proofs.lemmas.Bool.{or_from, or_left, or_right, or_parts, and_left, and_right, le-ltb, cases_lt}
use Rattle.std.proofs.lemmas.Nat.{mul-le}
use Rattle.cobol_syntax.specs.declared.place.Sub.{Sub}
use Rattle.cobol_syntax.specs.declared.place.Sub.TheVariants as sub
use Rattle.data_layout.specs.declared.item.Step.{Step}
use Rattle.program_uses.specs.declared.overlap.Stretch.{Stretch}
use Rattle.program_uses.specs.Overlap.{some_below, small, holds_at, some_occurrence, meet, reach}

pub none_below : (n : ℕ) (P : ℕ → Bool) → ((k : ℕ) → k < n → P k ≡ false) → some_below n P ≡ false
none_below zero P none = refl
none_below (suc n) P none =
    or_from (some_below n P) (P n) (none_below n P (λ k below. none k (omega arith))) (none n (omega arith))

pub few_none : (n : ℕ) (P : ℕ → Bool) → some_below n P ≡ false → (k : ℕ) → k < n → P k ≡ false
few_none zero P none k below = absurd (omega arith)
few_none (suc n) P none k below =
    let (before, last) = or_parts (some_below n P) (P n) none in
    elim (cases_lt k n) [
      | inl less ↦ few_none n P before k less
      | inr after ↦ (let same : k ≡ n = omega arith in ap P same ∙ last)
    ]

-- none past the first few
pub none_past : (n m : ℕ) (P : ℕ → Bool) → some_below n P ≡ false → ((k : ℕ) → n ≤ k → k < m → P k ≡ false) → some_below m P ≡ false
none_past n m P few none = none_below m P each where
  each : (k : ℕ) → k < m → P k ≡ false
  each k below = elim (cases_lt k n) [ inl before ↦ few_none n P few k before | inr after ↦ none k after below ]

pub some_at : (n k : ℕ) (P : ℕ → Bool) → k < n → P k ≡ true → some_below n P ≡ true
some_at zero k P below holds = absurd (omega arith)
some_at (suc n) k P below holds = elim (cases_lt k n) [
  | inl before ↦ or_left (some_below n P) (P n) (some_at n k P before holds)
  | inr after ↦ or_right (some_below n P) (P n) (let same : k ≡ n = omega arith in ap P (sym same) ∙ holds)
]

pub not_placed : (P : ℕ → Bool) (n : ℕ) → P n ≡ false → holds_at P (small n) ≡ false
not_placed P n none = by_test (nat_lt n (2 ^ 32)) where
  by_test : (b : Bool) → holds_at P (if b then Some n else None) ≡ false
  by_test true = none
  by_test false = refl

-- what begins past the end of the stretch
pub none_after : (one : Stretch) (bytes : ℕ) (steps : List Step) (subs : List Sub) (start : ℕ)
    → one.start + one.length ≤ start
    → some_occurrence (λ (n : ℕ). meet one n bytes) steps subs start ≡ false
none_after one bytes [] [] start past = and_right (nat_lt one.start (start + bytes)) (nat_lt start (one.start + one.length)) (le-ltb start (one.start + one.length) past)
none_after one bytes [] (x ∷ subs) start past = refl
none_after one bytes (step ∷ steps) [] start past = refl
none_after one bytes (step ∷ steps) (sub.Number value at ∷ subs) start past =
    not_placed _ (start + (value - 1) * step.size) (none_after one bytes steps subs (start + (value - 1) * step.size) (omega arith))
none_after one bytes (step ∷ steps) (sub.Name names ∷ subs) start past =
    none_below step.count _ (λ k below. not_placed _ (start + k * step.size) (none_after one bytes steps subs (start + k * step.size) (omega arith)))

-- what ends before its begin
pub none_before : (one : Stretch) (bytes : ℕ) (steps : List Step) (subs : List Sub) (start : ℕ)
    → start + reach steps subs + bytes ≤ one.start
    → some_occurrence (λ (n : ℕ). meet one n bytes) steps subs start ≡ false
none_before one bytes [] [] start past = and_left (nat_lt one.start (start + bytes)) (nat_lt start (one.start + one.length)) (le-ltb one.start (start + bytes) (omega arith))
none_before one bytes [] (x ∷ subs) start past = refl
none_before one bytes (step ∷ steps) [] start past = refl
none_before one bytes (step ∷ steps) (sub.Number value at ∷ subs) start past =
    not_placed _ (start + (value - 1) * step.size) (none_before one bytes steps subs (start + (value - 1) * step.size) (omega arith))
none_before one bytes (step ∷ steps) (sub.Name names ∷ subs) start past =
    none_below step.count _ (λ k below.
    let more : k * step.size ≤ (step.count - 1) * step.size = mul-le k step.size (step.count - 1) step.size (omega arith) (omega arith) in
    not_placed _ (start + k * step.size) (none_before one bytes steps subs (start + k * step.size) (omega arith)))

-- the first occurrences of a table, that end before the begin
pub none_first : (one : Stretch) (bytes : ℕ) (steps : List Step) (subs : List Sub) (start size first : ℕ) (o : Option ℕ)
    → IfSome o (λ (r : ℕ). r ≡ reach steps subs)
    → MatchOption o (first ≡ 0) (λ (r : ℕ). (k : ℕ) → k < first → start + k * size + r + bytes ≤ one.start)
    → some_below first (λ (k : ℕ). holds_at (some_occurrence (λ (n : ℕ). meet one n bytes) steps subs) (small (start + k * size))) ≡ false
none_first one bytes steps subs start size first None known before = rw before refl
none_first one bytes steps subs start size first (Some r) known before =
    none_below first _ (λ k below. not_placed _ (start + k * size) (none_before one bytes steps subs (start + k * size) (within k below)))
  where
    within : (k : ℕ) → k < first → start + k * size + reach steps subs + bytes ≤ one.start
    within k below = let near : start + k * size + r + bytes ≤ one.start = before k below in rw known at near

-- those behind the end
pub none_last : (one : Stretch) (bytes : ℕ) (steps : List Step) (subs : List Sub) (start size number count : ℕ)
    → some_below number (λ (k : ℕ). holds_at (some_occurrence (λ (n : ℕ). meet one n bytes) steps subs) (small (start + k * size))) ≡ false
    → ((k : ℕ) → number ≤ k → k < count → one.start + one.length ≤ start + k * size)
    → some_below count (λ (k : ℕ). holds_at (some_occurrence (λ (n : ℕ). meet one n bytes) steps subs) (small (start + k * size))) ≡ false
none_last one bytes steps subs start size number count few past =
    none_past number count _ few (λ k from below. not_placed _ (start + k * size) (none_after one bytes steps subs (start + k * size) (past k from below)))
