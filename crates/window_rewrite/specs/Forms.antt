-- Forms of words, in which the letters A, B, C and P stand for others.
use Rattle.std.specs.Prelude.{ℕ, ◌==◌, List, [], ◌∷◌, flat_map, Option, Some, None, if◌then◌else◌}
use Rattle.y2k_base.specs.declared.word.Origin.{Origin}
use Rattle.y2k_base.specs.declared.word.Word.{Word}
use Rattle.statement_words.specs.NewWords.{text_words}
use Rattle.window_rewrite.specs.declared.form.Slots.{Slots}

abbrev pub of_letter : Slots → ℕ → Option (List Word)
of_letter slots letter =
    if letter == 65 then Some slots.a
    else (if letter == 66 then Some slots.b else (if letter == 67 then Some slots.c else (if letter == 80 then Some slots.p else None)))

abbrev pub stands_for : Slots → List ℕ → Option (List Word)
stands_for slots [] = None
stands_for slots (letter ∷ []) = of_letter slots letter
stands_for slots (letter ∷ other ∷ more) = None

abbrev pub in_place : Option (List Word) → Word → List Word
in_place None word = word ∷ []
in_place (Some words) word = words

-- a word of a form, or what stands for it
abbrev pub filled_word : Slots → Word → List Word
filled_word slots word = in_place (stands_for slots word.text) word

-- the words of a form at an origin
abbrev pub filled : Slots → Origin → List ℕ → List Word
filled slots at form = flat_map (filled_word slots) (text_words at form)
