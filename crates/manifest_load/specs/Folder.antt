-- The folder of a file, which the names that a manifest writes are relative to.
use Rattle.std.specs.Prelude.{ℕ, Bool, ◌==◌, List, [], ◌∷◌, if◌then◌else◌}
use Rattle.std.specs.List.{list_any}

abbrev pub is_slash : ℕ → Bool
is_slash b = b == 47

-- a name up to and with its last slash; nothing of a name without a slash
abbrev pub folder_of : List ℕ → List ℕ
folder_of [] = []
folder_of (b ∷ bs) = if list_any is_slash (b ∷ bs) then b ∷ folder_of bs else []
