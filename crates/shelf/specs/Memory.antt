use Rattle.std.specs.Prelude.{ℕ, List, [], ◌∷◌, String, Vec, string_bytes}
use Rattle.std.specs.FinMap.{empty, insert}
use Rattle.std.specs.BTreeMap.{BTreeMap}
use Rattle.shelf.specs.Contents.{Files}

-- the bytes of each entry, by the bytes of its name
abbrev pub held_by : {X Y : Type 0} → List (String X × Vec ℕ Y) → Files
held_by [] = empty
held_by (entry ∷ entries) = insert (held_by entries) (string_bytes entry.0) entry.1.items

-- the files that a shelf in memory holds
abbrev pub held : {X Y : Type 0} → BTreeMap (String X) (Vec ℕ Y) → Files
held files = held_by files.entries
