-- What is printed, and the status that goes with it.
use Rattle.std.specs.Prelude.{◌≡◌, ◌⊎◌, ℕ, ◌++◌, List, Option}
use Rattle.std.specs.Option.{option_map}

-- the sink has taken the text besides what it had
abbrev pub IsPrinted : List ℕ → Option (List ℕ) → Option (List ℕ) → Type 0
IsPrinted text before after = after ≡ option_map (λ (bytes : List ℕ). bytes ++ text) before

-- the text is printed and the status is the wanted one, or else the sink failed (7) or memory ran out (8)
abbrev pub IsSaid : ℕ → List ℕ → Option (List ℕ) → Option (List ℕ) → ℕ → Type 0
IsSaid wanted text before after status = ((status ≡ wanted) × IsPrinted text before after) ⊎ ((status ≡ 7) ⊎ (status ≡ 8))
