-- The lengths of areas by their numbers.
use Rattle.std.proofs.Common.{◌≡◌, ℕ, zero, suc, ◌+◌, ◌-◌, ◌<◌, ◌≤◌, List, [], ◌∷◌, ◌++◌, length, get_or, refl, sym, ap, ◌∙◌, arith, Contains}
use Rattle.std.proofs.lemmas.List.{map-append, length-map}
use Rattle.data_layout.specs.declared.item.Area.{Area}
use Rattle.data_layout.specs.declared.item.Layout.{Layout}
use Rattle.plan_images.specs.Lengths.{areas_in, lengths_of, lengths_in, AreNumbered, HaveLengths}

one_by_one : (layouts : List Layout) → lengths_of (areas_in layouts) ≡ lengths_in layouts
one_by_one [] = refl
one_by_one (layout ∷ layouts) =
    map-append (λ (area : Area). area.length) layout.areas (areas_in layouts) ∙ ap (λ (ls : List ℕ). lengths_of layout.areas ++ ls) (one_by_one layouts)

at_number : (n : ℕ) (areas : List Area) → AreNumbered n areas → (area : Area) → Contains areas area → (n ≤ area.id.0) × (area.id.0 - n < length areas) × (get_or (lengths_of areas) (area.id.0 - n) 0 ≡ area.length)
at_number n [] h area there = absurd (omega (arith, there.1))
at_number n (x ∷ xs) h area (zero, l, e) =
    let number : x.id.0 ≡ area.id.0 = ap (λ (a : Area). a.id.0) e in
    let first : area.id.0 - n ≡ 0 = omega (arith, number, h.0) in
    (omega (arith, number, h.0), omega (arith, first), ap (λ (i : ℕ). get_or (lengths_of (x ∷ xs)) i 0) first ∙ ap (λ (a : Area). a.length) e)
at_number n (x ∷ xs) h area (suc k, l, e) =
    let r = at_number (n + 1) xs h.1 area (k, omega (arith, l), e) in
    let next : area.id.0 - n ≡ suc (area.id.0 - (n + 1)) = omega (arith, r.0) in
    (omega (arith, r.0), omega (arith, next, r.1), ap (λ (i : ℕ). get_or (lengths_of (x ∷ xs)) i 0) next ∙ r.2)

pub lengths : (layouts : List Layout) (ls : List ℕ) → ls ≡ lengths_in layouts → AreNumbered 0 (areas_in layouts) → HaveLengths (areas_in layouts) ls
lengths layouts ls e h area there =
    let r = at_number 0 (areas_in layouts) h area there in
    let all : area.id.0 - 0 ≡ area.id.0 = omega arith in
    let same : ls ≡ lengths_of (areas_in layouts) = e ∙ sym (one_by_one layouts) in
    let count : length ls ≡ length (areas_in layouts) = ap length same ∙ length-map (areas_in layouts) (λ (a : Area). a.length) in
    (omega (arith, r.1, count), ap (λ (l : List ℕ). get_or l area.id.0 0) same ∙ ap (λ (i : ℕ). get_or (lengths_of (areas_in layouts)) i 0) (sym all) ∙ r.2)
