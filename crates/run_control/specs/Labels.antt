-- Paragraphs and sections by their names.
use Rattle.std.specs.Prelude.{List, [], ◌∷◌, length, Option, Some, None, if◌then◌else◌}
use Rattle.std.specs.Str.{bytes_eq}
use Rattle.program_meaning.specs.Tree.{Name, Paragraph}
use Rattle.program_meaning.specs.State.{after_range}
use Rattle.run_control.specs.declared.labels.Label.{Label}

-- the first paragraph or section of that name
abbrev pub label_of : Name → List Paragraph → Option Label
label_of n [] = None
label_of n (p ∷ ps) =
    if bytes_eq p.name n then Some (record { left = length (p ∷ ps); after = after_range (p ∷ ps) }) else label_of n ps
