-- The storage of a running program as the meaning of programs has it.
use Rattle.std.specs.Prelude.{ℕ, ◌+◌, ◌-◌, ◌<◌, ◌≤◌, List, length, map, slice_index_or}
use Rattle.y2k_base.specs.declared.place.Span.{Span}
use Rattle.program_meaning.specs.Storage as meant
use Rattle.storage_places.specs.declared.storage.Storage.{Storage}

-- the bytes of each area
abbrev pub held : Storage → meant.Storage
held storage = map (λ area. area.items) storage.areas.items

-- the number of the program's first area in its portfolio
abbrev pub first : Storage → ℕ
first storage = storage.first.0

-- how many bytes each area has
abbrev pub lengths : List (List ℕ) → List ℕ
lengths areas = map length areas

-- a span that lies in areas of these lengths, the first of them with this number
pub record IsWithin (first : ℕ) (lengths : List ℕ) (span : Span) : Type 0 where
  pub after : first ≤ span.area.0
  pub before : span.area.0 - first < length lengths
  pub inside : span.offset + span.length ≤ slice_index_or lengths (span.area.0 - first) 0
