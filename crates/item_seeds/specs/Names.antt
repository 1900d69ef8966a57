-- Which item a written name means.
use Rattle.std.specs.Prelude.{ℕ, ◌==◌, bytes_eq, List, [], ◌∷◌, ◌++◌, codes, Option, Some, None, if◌then◌else◌}
use Rattle.std.specs.Option.{option_map}
use Rattle.std.specs.Char.{to_ascii_uppercase}
use Rattle.data_layout.specs.declared.item.Layout.{Layout}
use Rattle.data_layout.specs.declared.found.Found.{Found}
use Rattle.data_layout.specs.declared.found.Found.TheVariants as found
use Rattle.data_layout.specs.Find.{meaning}

-- a word that has ended, if it has begun
abbrev pub ended : List ℕ → List (List ℕ)
ended [] = []
ended (c ∷ word) = (c ∷ word) ∷ []

-- the words between blanks in capitals, where this one has begun
abbrev pub words_from : List ℕ → List ℕ → List (List ℕ)
words_from word [] = ended word
words_from word (c ∷ text) =
    if c == 32 then ended word ++ words_from [] text else words_from (word ++ to_ascii_uppercase c ∷ []) text

abbrev pub words_of : List ℕ → List (List ℕ)
words_of text = words_from [] text

-- a name and its qualifiers, from the innermost on, parted by OF
abbrev pub names_of : List (List ℕ) → Option (List (List ℕ))
names_of [] = None
names_of (name ∷ []) = Some (name ∷ [])
names_of (name ∷ of ∷ words) =
    if bytes_eq of (codes "OF") then option_map (λ (names : List (List ℕ)). name ∷ names) (names_of words) else None

abbrev pub item_of : Found → Option ℕ
item_of (found.Item number) = Some number
item_of (found.Named number) = None
item_of found.Unknown = None
item_of found.Twice = None

abbrev pub item_meant : Layout → Option (List (List ℕ)) → Option ℕ
item_meant layout None = None
item_meant layout (Some names) = item_of (meaning layout names)

-- the number of the one item that the text names
abbrev pub named_item : Layout → List ℕ → Option ℕ
named_item layout text = item_meant layout (names_of (words_of text))
