-- The lines that refusals and faults print.
use Rattle.std.specs.Prelude.{ℕ, ◌++◌, List, codes, decimal}

abbrev pub refused_name_line : List ℕ → List ℕ → List ℕ
refused_name_line kind name = codes "refused " ++ (kind ++ (codes " " ++ (name ++ codes "\n")))

abbrev pub refused_place_line : List ℕ → List ℕ → ℕ → ℕ → List ℕ
refused_place_line kind name line column =
    codes "refused " ++ (kind ++ (codes " " ++ (name ++ (codes ":" ++ (decimal line ++ (codes ":" ++ (decimal column ++ codes "\n")))))))

abbrev pub shelf_fault_line : List ℕ → List ℕ
shelf_fault_line name = codes "shelf fault " ++ (name ++ codes "\n")
