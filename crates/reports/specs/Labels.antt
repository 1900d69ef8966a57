-- The rows of a labelling.
use Rattle.std.specs.Prelude.{ℕ, List, [], ◌∷◌, ◌++◌, map, codes, decimal}
use Rattle.data_layout.specs.declared.portfolio.Portfolio.{Portfolio}
use Rattle.year_labels.specs.declared.label.Fact.{Fact}
use Rattle.year_labels.specs.declared.label.Label.{Label}
use Rattle.year_labels.specs.declared.label.Label.TheVariants.{Tens, Units, Plain, Packed}
use Rattle.reports.specs.declared.names.AreaName.{AreaName}
use Rattle.reports.specs.Names.{name_at, names_of}
use Rattle.reports.specs.Rows.{rows_text}

abbrev pub label_text : Label → List ℕ
label_text Tens = codes "T"
label_text Units = codes "U"
label_text Plain = codes "P"
label_text (Packed digits unit byte) = codes "K" ++ (decimal digits ++ (codes "." ++ (decimal unit ++ (codes "." ++ decimal byte))))

abbrev pub label_header : List (List ℕ)
label_header = codes "program" ∷ codes "area" ∷ codes "offset" ∷ codes "label" ∷ []

-- the program, the area, the byte of the area from 0, and its label
abbrev pub label_row : List AreaName → Fact → List (List ℕ)
label_row names f =
    (name_at names f.place.area).program ∷ (name_at names f.place.area).area ∷ decimal f.place.offset ∷ label_text f.label ∷ []

-- a row for each fact, in order
abbrev pub label_table : Portfolio → List Fact → List (List (List ℕ))
label_table portfolio facts = label_header ∷ map (label_row (names_of portfolio)) facts

abbrev pub label_report : Portfolio → List Fact → List ℕ
label_report portfolio facts = rows_text (label_table portfolio facts)
