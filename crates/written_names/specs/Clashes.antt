-- The names that a form of the command line writes, and which of them it must not write.
use Rattle.std.specs.Prelude.{ℕ, Bool, false, nat_le, ◌&&◌, ◌||◌, List, [], ◌∷◌, ◌++◌, map, length, codes, if◌then◌else◌}
use Rattle.std.specs.List.{list_any}
use Rattle.std.specs.Str.{bytes_eq}
use Rattle.name_tables.specs.Names.{Known, with_name}
use Rattle.portfolio.specs.declared.manifest.Named.{Named}
use Rattle.shelf.specs.Contents.{Files, bytes_of}

-- a name in the folder that a form writes
abbrev pub under : List ℕ → List ℕ → List ℕ
under out name = out ++ (codes "/" ++ name)

abbrev pub done_under : List ℕ → List ℕ
done_under out = under out (codes "done")

-- each listed data file, and the mark of the end
abbrev pub names_of_run : List ℕ → List Named → List (List ℕ)
names_of_run out files = map (λ file. under out file.name) files ++ done_under out ∷ []

-- names in a folder, which is empty or ends in a slash
abbrev pub names_in : List ℕ → List (List ℕ) → List (List ℕ)
names_in folder names = map (λ name. folder ++ name) names

-- the manifest, its texts, its seeds and its data files, as they are read from the shelf
abbrev pub names_read : List ℕ → List ℕ → List (List ℕ) → List (List ℕ)
names_read main folder names = main ∷ names_in folder names

abbrev pub stands : List (List ℕ) → List ℕ → Bool
stands names name = list_any (λ n. bytes_eq name n) names

-- the name is one of these, and one of those after it too
abbrev pub stands_twice : List (List ℕ) → List ℕ → Bool
stands_twice [] name = false
stands_twice (n ∷ ns) name = (bytes_eq name n && stands ns name) || stands_twice ns name

-- a name that is written is also read, or is written twice
abbrev pub is_clash : List (List ℕ) → List (List ℕ) → List ℕ → Bool
is_clash read written name = (stands written name && stands read name) || stands_twice written name

-- names beside those that are known
abbrev pub with_all : Known → List (List ℕ) → Known
with_all known [] = known
with_all known (n ∷ ns) = with_all (with_name known n) ns

-- what was found, with a name that is known
abbrev pub with_known : Known → List ℕ → Known → Known
with_known known name found = if known name then with_name found name else found

-- what was found, with the names that are known, where each is known after itself
abbrev pub found_in : Known → Known → List (List ℕ) → Known
found_in known found [] = found
found_in known found (n ∷ ns) = found_in (with_name known n) (with_known known n found) ns

-- the mark of the end stands there with its five bytes
abbrev pub is_taken : List ℕ → Files → Bool
is_taken out files = nat_le 5 (length (bytes_of files (done_under out)))
