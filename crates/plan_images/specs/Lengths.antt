-- The areas of a portfolio and their lengths.
use Rattle.std.specs.Prelude.{◌≡◌, ℕ, ◌+◌, ◌<◌, List, [], ◌∷◌, length, map, slice_index, Contains}
use Rattle.std.specs.List.{flat_map}
use Rattle.data_layout.specs.declared.item.Area.{Area}
use Rattle.data_layout.specs.declared.item.Layout.{Layout}

-- the areas of all layouts
abbrev pub areas_in : List Layout → List Area
areas_in layouts = flat_map (λ layout. layout.areas) layouts

abbrev pub lengths_of : List Area → List ℕ
lengths_of areas = map (λ area. area.length) areas

-- of all layouts
abbrev pub lengths_in : List Layout → List ℕ
lengths_in layouts = flat_map (λ layout. lengths_of layout.areas) layouts

-- the areas are numbered from this number on
abbrev pub AreNumbered : ℕ → List Area → Type 0
AreNumbered n [] = Unit {0}
AreNumbered n (area ∷ areas) = (area.id.0 ≡ n) × AreNumbered (n + 1) areas

-- each area has its length at its number
abbrev pub HaveLengths : List Area → List ℕ → Type 0
HaveLengths areas lengths = (area : Area) → Contains areas area → (area.id.0 < length lengths) × (slice_index lengths area.id.0 ≡ area.length)
