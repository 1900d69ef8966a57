-- The same bytes written at several offsets of an area.
use Rattle.std.specs.Prelude.{ℕ, List, [], ◌∷◌}
use Rattle.program_meaning.specs.Storage.{Storage, write}

abbrev pub writes : ℕ → ℕ → Storage → List ℕ → List ℕ → Storage
writes area count store [] bytes = store
writes area count store (o ∷ os) bytes = writes area count (write store (record { area = area; start = o; count = count }) bytes) os bytes
