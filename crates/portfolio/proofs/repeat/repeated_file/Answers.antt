use Rattle.std.proofs.Common.{ℕ, List, MatchOption, subst, ◌∙◌}
use Rattle.portfolio.specs.Faults.{is_twice_in, IsLeast, NonePasses}
use Rattle.portfolio.proofs.repeat.repeated_file.Goals as goal

pub returns : goal.returns
returns c =
    subst (λ (names : List (List ℕ)). MatchOption c.in_ok-found.found (NonePasses (is_twice_in names)) (IsLeast (is_twice_in names)))
    (c.items.ensures ∙ c.in_ok-all.ensures) c.in_ok-found.ensures
