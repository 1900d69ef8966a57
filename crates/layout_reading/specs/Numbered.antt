-- Areas whose numbers follow one another, as those of a laid program do.
use Rattle.std.specs.Prelude.{ℕ, ◌+◌, ◌≡◌, List, [], ◌∷◌}
use Rattle.data_layout.specs.declared.item.Area.{Area}

abbrev pub AreNumbered : ℕ → List Area → Type 0
AreNumbered n [] = Unit {0}
AreNumbered n (area ∷ areas) = (area.id.0 ≡ n) × AreNumbered (n + 1) areas
