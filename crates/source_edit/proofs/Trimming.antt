-- Items dropped from the end are those dropped from the front of the reversed list.
use Rattle.std.proofs.Common.{◌≡◌, ℕ, ◌≤◌, Bool, true, false, if◌then◌else◌, List, [], ◌∷◌, ◌++◌, length, reverse, refl, ap, sym, ◌∙◌, arith}
use Rattle.std.proofs.lemmas.List.{reverse-append, length-reverse}
use Rattle.source_edit.specs.Lines.{before_trimmed_by, trimmed_by, dropped_by}

module _ (p : ℕ → Bool) where
  abbrev pushed : ℕ → List ℕ → List ℕ
  pushed b [] = if p b then [] else b ∷ []
  pushed b (c ∷ cs) = c ∷ (cs ++ b ∷ [])

  without_pushed : (bs : List ℕ) (b : ℕ) → dropped_by p (bs ++ b ∷ []) ≡ pushed b (dropped_by p bs)
  without_pushed [] b = refl
  without_pushed (c ∷ cs) b =
      elim (p c) as (λ (t : Bool). (if t then dropped_by p (cs ++ b ∷ []) else c ∷ (cs ++ b ∷ [])) ≡ pushed b (if t then dropped_by p cs else c ∷ cs))
      [ true ↦ without_pushed cs b | false ↦ refl ]

  before_some : (b : ℕ) (t : List ℕ) → 1 ≤ length t → before_trimmed_by p b t ≡ b ∷ t
  before_some b [] h = absurd (omega (arith, h))
  before_some b (c ∷ cs) h = refl

  reverse_pushed : (b : ℕ) (t : List ℕ) → reverse (pushed b t) ≡ before_trimmed_by p b (reverse t)
  reverse_pushed b [] =
      elim (p b) as (λ (x : Bool). reverse {A = ℕ} (if x then [] else b ∷ []) ≡ (if x then [] else b ∷ [])) [ true ↦ refl | false ↦ refl ]
  reverse_pushed b (c ∷ cs) =
      let some_cells : 1 ≤ length (reverse (c ∷ cs)) = omega (arith, length-reverse (c ∷ cs)) in
      reverse-append (c ∷ cs) (b ∷ []) ∙ sym (before_some b (reverse (c ∷ cs)) some_cells)

  pub trimmed_back : (bs : List ℕ) → reverse (dropped_by p (reverse bs)) ≡ trimmed_by p bs
  trimmed_back [] = refl
  trimmed_back (b ∷ bs) =
      ap (λ (xs : List ℕ). reverse (dropped_by p xs)) (reverse-append (b ∷ []) bs)
      ∙ ap (λ (xs : List ℕ). reverse xs) (without_pushed (reverse bs) b)
      ∙ reverse_pushed b (dropped_by p (reverse bs))
      ∙ ap (λ (t : List ℕ). before_trimmed_by p b t) (trimmed_back bs)
