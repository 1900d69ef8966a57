-- An area, and those after it.
use Rattle.std.proofs.Common.{◌≡◌, ℕ, ◌+◌, ◌-◌, ◌<◌, List, ◌∷◌, ◌++◌, length, get_or, take, drop, map, ap, sym, ◌∙◌}
use Rattle.std.proofs.lemmas.List.{drop_more, take_rest}
use Rattle.data_layout.specs.declared.item.Area.{Area}
use Rattle.plan_limits.specs.declared.limit.Limit.{Limit}
use Rattle.area_limits.specs.Extents.{Extent}
use Rattle.area_limits.specs.Full.{lengths, extent_limits, full_limits}
use Rattle.area_limits.proofs.Apart.{joined, added}

pub front : (areas : List Area) (area : Area) → 0 < length areas → area ≡ get_or areas 0 area → areas ≡ area ∷ take (length areas - 1) (drop 1 areas)
front areas area some is =
    drop_more areas 0 area some ∙ ap (λ (a : Area). a ∷ drop 1 areas) (sym is) ∙ ap (λ (more : List Area). area ∷ more) (sym (take_rest areas 1))

pub lengths_step : (f : Area → Extent) (areas more : List Area) (area : Area) (sum next : ℕ) → areas ≡ area ∷ more → next ≡ sum + (f area).length
    → next + lengths (map f more) ≡ sum + lengths (map f areas)
lengths_step f areas more area sum next are is =
    ap (λ (n : ℕ). n + lengths (map f more)) is
    ∙ sym (added sum (f area).length (lengths (map f more)))
    ∙ ap (λ (all : List Area). sum + lengths (map f all)) (sym are)

pub full_step : (f : Area → Extent) (areas more : List Area) (area : Area) (sum next : ℕ) (old new : List Limit) → areas ≡ area ∷ more → next ≡ sum + (f area).length
    → new ≡ old ++ extent_limits sum (f area) → new ++ full_limits next (map f more) ≡ old ++ full_limits sum (map f areas)
full_step f areas more area sum next old new are is added_to =
    ap (λ (limits : List Limit). limits ++ full_limits next (map f more)) added_to
    ∙ ap (λ (n : ℕ). (old ++ extent_limits sum (f area)) ++ full_limits n (map f more)) is
    ∙ sym (joined old (extent_limits sum (f area)) (full_limits (sum + (f area).length) (map f more)))
    ∙ ap (λ (all : List Area). old ++ full_limits sum (map f all)) (sym are)
