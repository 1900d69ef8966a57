-- Facts, and what it is that they don't contradict each other.
use Rattle.std.specs.Prelude.{◌≡◌, ℕ, ◌+◌, List, Contains}
use Rattle.y2k_base.specs.declared.place.BytePlace.{BytePlace}
use Rattle.y2k_base.specs.declared.place.Span.{Span}
use Rattle.year_labels.specs.declared.label.Fact.{Fact}
use Rattle.year_labels.specs.declared.label.Label.{Label}

-- that the byte bears the label
abbrev pub fact_of : BytePlace → Label → Fact
fact_of place label = record { place = place; label = label }

-- byte i of a span
abbrev pub place_in : Span → ℕ → BytePlace
place_in span i = record { area = span.area; offset = span.offset + i }

-- that byte i of a span bears the label
abbrev pub fact_in : Span → ℕ → Label → Fact
fact_in span i label = fact_of (place_in span i) label

-- no byte bears unlike labels
abbrev pub IsClean : List Fact → Type 0
IsClean facts = (f g : Fact) → Contains facts f → Contains facts g → f.place ≡ g.place → f.label ≡ g.label
