-- What the labels, and the modes of the years, say of each byte.
use Rattle.std.specs.Prelude.{◌≡◌, ◌⊎◌, ℕ, ◌<◌, List, Option, Contains}
use Rattle.y2k_base.specs.declared.place.BytePlace.{BytePlace}
use Rattle.year_labels.specs.declared.label.Fact.{Fact}
use Rattle.year_labels.specs.declared.label.Label.{Label}
use Rattle.year_labels.specs.declared.label.Label.TheVariants as labels
use Rattle.year_labels.specs.Facts.{fact_of}
use Rattle.year_pairs.specs.Years.{width, label_at, place_after}
use Rattle.window_modes.specs.declared.modes.YearMode.{YearMode}
use Rattle.window_modes.specs.Links.{HasByte}
use Rattle.year_image.specs.Marks.{Mark, Still, Tens, Units, Half}

-- the mark of a byte with this label that belongs to a year with this pivot; a year without one gets its century
abbrev pub mark_of : Label → Option ℕ → Mark
mark_of labels.Tens pivot = Tens pivot
mark_of labels.Units pivot = Units pivot
mark_of labels.Plain pivot = Still
mark_of (labels.Packed digits unit k) pivot = Half digits k unit pivot

-- the byte is one of the year, and has its mark
abbrev pub IsMarkIn : YearMode → BytePlace → Mark → Type 0
IsMarkIn mode place mark = (k : ℕ) × (k < width mode.year.kind) × (place ≡ place_after mode.year.place k) × (mark ≡ mark_of (label_at mode.year.kind k) mode.pivot)

-- the byte belongs to one of the years and has its mark there, or it belongs to none
abbrev pub IsMark : List YearMode → BytePlace → Mark → Type 0
IsMark modes place mark = ((mode : YearMode) × Contains modes mode × IsMarkIn mode place mark)
    ⊎ (((mode : YearMode) → Contains modes mode → HasByte mode.year place → ⊥) × (mark ≡ Still))

-- the byte bears the label of a year, and has the mark of this label in the mode of the year to which it belongs; or it bears
-- none but Plain
abbrev pub IsLabelled : List Fact → List YearMode → BytePlace → Mark → Type 0
IsLabelled facts modes place mark = ((label : Label) × Contains facts (fact_of place label) × (label ≡ labels.Plain → ⊥) × (mode : YearMode) × Contains modes mode × HasByte mode.year place × (mark ≡ mark_of label mode.pivot))
    ⊎ (((label : Label) → Contains facts (fact_of place label) → label ≡ labels.Plain) × (mark ≡ Still))
