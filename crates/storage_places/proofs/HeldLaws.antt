-- The bytes of areas, one area written anew, and spans that lie in them.
use Rattle.std.proofs.Common.{◌≡◌, ℕ, ◌+◌, ◌-◌, ◌<◌, ◌≤◌, List, [], ◌∷◌, ap₂, replicate, length, map, slice_set, slice_index_or, refl, sym, ap, ◌∙◌, subst}
use Rattle.std.proofs.lemmas.List.{map-set, get_or-map, length-map, length-replicate, set-get_or}
use Rattle.y2k_base.specs.declared.place.Span.{Span}
use Rattle.storage_places.specs.Held.{lengths, IsWithin}

-- the length of an area
pub length-at : (areas : List (List ℕ)) (k : ℕ) → k < length areas → slice_index_or (lengths areas) k 0 ≡ length (slice_index_or areas k [])
length-at areas k there = get_or-map length areas k [] 0 there

pub is-within : (areas : List (List ℕ)) (first : ℕ) (span : Span) → first ≤ span.area.0 → span.area.0 - first < length areas
    → span.offset + span.length ≤ length (slice_index_or areas (span.area.0 - first) []) → IsWithin first (lengths areas) span
is-within areas first span after before inside = record {
  after = after;
  before = subst (λ (n : ℕ). span.area.0 - first < n) (sym (length-map areas length)) before;
  inside = subst (λ (n : ℕ). span.offset + span.length ≤ n) (sym (length-at areas (span.area.0 - first) before)) inside;
}

pub in-area : (areas : List (List ℕ)) (first : ℕ) (span : Span) → IsWithin first (lengths areas) span → span.area.0 - first < length areas
in-area areas first span is = subst (λ (n : ℕ). span.area.0 - first < n) (length-map areas length) is.before

pub inside-area : (areas : List (List ℕ)) (first : ℕ) (span : Span) → IsWithin first (lengths areas) span
    → span.offset + span.length ≤ length (slice_index_or areas (span.area.0 - first) [])
inside-area areas first span is =
    subst (λ (n : ℕ). span.offset + span.length ≤ n) (length-at areas (span.area.0 - first) (in-area areas first span is)) is.inside

-- one area changed, the others as they were
pub area-set : {V : Type 0} (items : V → List ℕ) (areas : List V) (k : ℕ) (now new : V) (change : List ℕ → List ℕ) → now ≡ slice_index_or areas k now → k < length areas
    → items new ≡ change (items now) → map items (slice_set areas k new) ≡ slice_set (map items areas) k (change (slice_index_or (map items areas) k []))
area-set items areas k now new change is there changes =
    map-set items areas k new
    ∙ ap (λ (area : List ℕ). slice_set (map items areas) k area) (changes ∙ ap change (ap items is ∙ sym (get_or-map items areas k now [] there)))

pub lengths-set : (areas : List (List ℕ)) (k : ℕ) (new : List ℕ) → k < length areas → length new ≡ length (slice_index_or areas k []) → lengths (slice_set areas k new) ≡ lengths areas
lengths-set areas k new there same =
    map-set length areas k new ∙ ap (λ (n : ℕ). slice_set (lengths areas) k n) (same ∙ sym (length-at areas k there)) ∙ set-get_or (lengths areas) k 0

pub there-before : {V : Type 0} (items : V → List ℕ) (areas : List V) (k : ℕ) → k < length (map items areas) → k < length areas
there-before items areas k there = subst (λ (n : ℕ). k < n) (length-map areas items) there

pub area-there : {V : Type 0} (items : V → List ℕ) (areas : List V) (k : ℕ) (now : V) → now ≡ slice_index_or areas k now → k < length areas → items now ≡ slice_index_or (map items areas) k []
area-there items areas k now is there = ap items is ∙ sym (get_or-map items areas k now [] there)

pub blank-lengths : (ns : List ℕ) → lengths (map (λ (n : ℕ). replicate n 32) ns) ≡ ns
blank-lengths [] = refl
blank-lengths (n ∷ ns) = ap₂ (λ (m : ℕ) (ms : List ℕ). m ∷ ms) (length-replicate n 32) (blank-lengths ns)
