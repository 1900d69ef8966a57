-- The facts of steps that are named by their numbers.
use Rattle.std.specs.Prelude.{◌≡◌, ℕ, ◌<◌, List, length, slice_index_or, [], ◌∷◌, ◌++◌, slice_get, Option, Some, None}
use Rattle.year_labels.specs.declared.label.Fact.{Fact}
use Rattle.conflict_chain.specs.declared.chain.ChainStep.{ChainStep}

abbrev pub fact_of_step : Option ChainStep → List Fact
fact_of_step None = []
fact_of_step (Some step) = step.fact ∷ []

-- the facts of the steps of these numbers; a number past the end has none
abbrev pub named : List ChainStep → List ℕ → List Fact
named steps [] = []
named steps (k ∷ ks) = fact_of_step (slice_get steps k) ++ named steps ks

-- the item of that index
abbrev pub IsAt : {X : Type 0} → List X → ℕ → X → Type 0
IsAt {X} xs index x = (index < length xs) × (slice_index_or xs index x ≡ x)

-- the step of that number has the fact
abbrev pub IsFactOf : List ChainStep → ℕ → Fact → Type 0
IsFactOf steps number fact = (step : ChainStep) × IsAt steps number step × (step.fact ≡ fact)
