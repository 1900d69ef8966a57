-- The words of a program with edits of some in place, and the edits that write a stretch of words anew.
use Rattle.std.specs.Prelude.{ℕ, zero, suc, ◌+◌, ◌-◌, Bool, List, [], ◌∷◌, ◌++◌, Option, Some, None, slice_get}
use Rattle.std.specs.Option.{option_to_list}
use Rattle.std.specs.Ordering.{is_lt}
use Rattle.y2k_base.specs.declared.edit.Edit.{Edit}
use Rattle.y2k_base.specs.declared.edit.WordPlace.{WordPlace}
use Rattle.y2k_base.specs.declared.word.Word.{Word}
use Rattle.y2k_base.specs.Edits.{word_of, place_cmp, edits_of}

abbrev pub first_of : List Edit → Option Edit
first_of [] = None
first_of (e ∷ es) = Some e

-- its word stands before that one
abbrev pub comes_before : WordPlace → Edit → Bool
comes_before word edit = is_lt (place_cmp (word_of edit) word)

abbrev pub place : ℕ → ℕ → WordPlace
place program position = record { program = program; position = position }

-- the words of the first of the edits of a word, or else the word itself
abbrev pub first_words : List Edit → Option Word → List Word
first_words [] own = option_to_list own
first_words (e ∷ es) own = e.words

-- the words that stand in place of the one at a position
abbrev pub words_at : ℕ → List Word → List Edit → ℕ → List Word
words_at program words edits position = first_words (edits_of (place program position) edits) (slice_get words position)

-- so many words from a position on, edited
abbrev pub edited : ℕ → List Word → List Edit → ℕ → ℕ → List Word
edited program words edits from zero = []
edited program words edits from (suc count) = words_at program words edits from ++ edited program words edits (from + 1) count

-- those from one position on up to another
abbrev pub between : ℕ → List Word → List Edit → ℕ → ℕ → List Word
between program words edits from end = edited program words edits from (end - from)

-- the edit of a word, if there is one
abbrev pub edit_of_word : ℕ → ℕ → List Word → Option Word → List Edit
edit_of_word program position new None = []
edit_of_word program position new (Some word) = record { program = program; position = position; at = word.origin; words = new } ∷ []

abbrev pub edit_at : ℕ → List Word → ℕ → List Word → List Edit
edit_at program words position new = edit_of_word program position new (slice_get words position)

-- so many words from a position on are taken away
abbrev pub removals : ℕ → List Word → ℕ → ℕ → List Edit
removals program words from zero = []
removals program words from (suc count) = edit_at program words from [] ++ removals program words (from + 1) count

-- the first of so many words gets the new words, and each further one none
abbrev pub stretch_of : ℕ → List Word → ℕ → ℕ → List Word → List Edit
stretch_of program words at zero new = []
stretch_of program words at (suc count) new = edit_at program words at new ++ removals program words (at + 1) count

abbrev pub stretch : ℕ → List Word → ℕ → ℕ → List Word → List Edit
stretch program words at end new = stretch_of program words at (end - at) new
