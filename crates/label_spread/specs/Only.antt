-- The stretches of facts are the only ones.
use Rattle.std.specs.Prelude.{◌≡◌, List}
use Rattle.year_labels.specs.declared.label.Fact.{Fact}
use Rattle.year_labels.specs.declared.stretch.Stretch.{Stretch}
use Rattle.year_labels.specs.Stretches.{AreStretchesOf}

-- any two lists of stretches of the facts are the same
abbrev pub HaveOneList : List Fact → Type 0
HaveOneList facts = (ss ts : List Stretch) → AreStretchesOf facts ss → AreStretchesOf facts ts → ss ≡ ts
