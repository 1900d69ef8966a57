-- The words that are wanted at positions, each as an edit of one word. The word that stands there may be wanted too.
use Rattle.std.specs.Prelude.{ℕ, List, [], ◌∷◌, slice_get, Option, Some, None}
use Rattle.y2k_base.specs.declared.edit.Edit.{Edit}
use Rattle.y2k_base.specs.declared.word.Word.{Word}
use Rattle.y2k_base.specs.declared.word.WordKind.{WordKind}
use Rattle.y2k_base.specs.declared.word.WordKind.TheVariants as kinds
use Rattle.literal_images.specs.declared.image.NewWord.{NewWord}
use Rattle.literal_images.specs.declared.image.NewWord.TheVariants as new

-- a word in place of another
abbrev pub instead : Word → WordKind → List ℕ → Word
instead old kind text = record { text = text; kind = kind; origin = old.origin }

-- the word of a literal after the conversion
abbrev pub wanted_word : Word → Option NewWord → Word
wanted_word old None = old
wanted_word old (Some (new.Number text)) = instead old kinds.Number text
wanted_word old (Some (new.Literal text)) = instead old kinds.Literal text

-- a word is wanted at that position of the program
abbrev pub wish : ℕ → ℕ → Word → Edit
wish program position word = record { program = program; position = position; at = word.origin; words = word ∷ [] }

abbrev pub wanted_over : ℕ → ℕ → Option NewWord → Option Word → List Edit
wanted_over program position word None = []
wanted_over program position word (Some old) = wish program position (wanted_word old word) ∷ []

-- what a literal wants at its position
abbrev pub wanted : ℕ → List Word → ℕ → Option NewWord → List Edit
wanted program words position word = wanted_over program position word (slice_get words position)

abbrev pub instead_over : ℕ → ℕ → WordKind → List ℕ → Option Word → List Edit
instead_over program position kind text None = []
instead_over program position kind text (Some old) = wish program position (instead old kind text) ∷ []

abbrev pub wanted_instead : ℕ → List Word → ℕ → WordKind → List ℕ → List Edit
wanted_instead program words position kind text = instead_over program position kind text (slice_get words position)

abbrev pub wanted_number : ℕ → List Word → ℕ → Option (List ℕ) → List Edit
wanted_number program words position None = []
wanted_number program words position (Some text) = wanted_instead program words position kinds.Number text
