-- Two years in areas that follow each other.
use Rattle.std.proofs.Common.{◌≡◌, ◌<◌, List, [], ◌∷◌, inl, subst, sym}
use Rattle.std.proofs.lemmas.List.Elements.{All-nil, All-cons}
use Rattle.window_modes.specs.declared.modes.YearMode.{YearMode}
use Rattle.year_index.specs.Years.{ArePlaced, IsNear}

both_placed : (a b : YearMode) → a.year.place.area.0 < b.year.place.area.0 → IsNear a → IsNear b → ArePlaced (a ∷ b ∷ [])
both_placed a b before near also = record {
  ordered = ((inl before, tt), (tt, tt));
  near = All-cons IsNear a (b ∷ []) near (All-cons IsNear b [] also (All-nil IsNear));
}

pub two_placed : (modes : List YearMode) (a b : YearMode) → modes ≡ a ∷ b ∷ [] → a.year.place.area.0 < b.year.place.area.0 → IsNear a → IsNear b → ArePlaced modes
two_placed modes a b are before near also = subst (λ (l : List YearMode). ArePlaced l) (sym are) (both_placed a b before near also)
