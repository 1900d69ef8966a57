-- The names that a conversion may write.
use Rattle.std.specs.Prelude.{ℕ, List, [], ◌∷◌, ◌++◌, map, codes, if◌then◌else◌}
use Rattle.manifest_load.specs.Folder.{is_slash}
use Rattle.portfolio.specs.declared.manifest.Manifest.{Manifest}
use Rattle.written_names.specs.Clashes.{under, done_under}

-- what stands behind the last slash of a rest, or else this part
abbrev pub part_behind : List ℕ → List ℕ → List ℕ
part_behind part [] = part
part_behind part (b ∷ bs) = part_behind (if is_slash b then bs else part) bs

-- the last part of a name
abbrev pub last_part : List ℕ → List ℕ
last_part name = part_behind name name

-- the manifest, the labels, the plan, and the mark of the end
abbrev pub own_names : List ℕ → List ℕ → List (List ℕ)
own_names out manifest =
    under out manifest ∷ (under out (codes "labels.csv") ∷ (under out (codes "plan.csv") ∷ (done_under out ∷ [])))

-- each listed data file, whether it is there or not, each copybook and each program, and these
abbrev pub names_of_conversion : List ℕ → List ℕ → Manifest → List (List ℕ)
names_of_conversion out main manifest =
    map (λ file. under out file.name) manifest.files
    ++ (map (λ book. under out book.name) manifest.copybooks
    ++ (map (under out) manifest.programs ++ own_names out (last_part main)))
