-- Edits of words, and the edits of two lists in one.
use Rattle.std.specs.Prelude.{◌≡◌, ℕ, ◌==◌, ◌&&◌, Bool, List, [], ◌∷◌}
use Rattle.std.specs.List.{filter, list_any}
use Rattle.std.specs.List.Sorted.{IsSortedByKey}
use Rattle.std.specs.declared.cmp.Ordering.{Ordering}
use Rattle.std.specs.Ordering.{nat_cmp, ordering_then}
use Rattle.y2k_base.specs.declared.edit.Edit.{Edit}
use Rattle.y2k_base.specs.declared.edit.WordPlace.{WordPlace}

-- the word that an edit is of
abbrev pub word_of : Edit → WordPlace
word_of e = record { program = e.program; position = e.position }

-- words go by program, then position
abbrev pub place_cmp : WordPlace → WordPlace → Ordering
place_cmp a b = ordering_then (nat_cmp a.program b.program) (nat_cmp a.position b.position)

abbrev pub AreInOrder : List Edit → Type 0
AreInOrder edits = IsSortedByKey word_of place_cmp edits

abbrev pub is_of : WordPlace → Edit → Bool
is_of word e = e.program == word.program && e.position == word.position

-- the edits of one word, in their order
abbrev pub edits_of : WordPlace → List Edit → List Edit
edits_of word edits = filter (is_of word) edits

-- one of the others is of the same word
abbrev pub is_edited_by : List Edit → Edit → Bool
is_edited_by others e = list_any (is_of (word_of e)) others

-- those of the second list, or, where it has none, those of the first
abbrev pub second_or_first : List Edit → List Edit → List Edit
second_or_first first [] = first
second_or_first first (e ∷ es) = e ∷ es

-- the edits of each word are those that the second list has for it, or else the first
pub record AreJoined (first second joined : List Edit) : Type 0 where
  pub ordered : AreInOrder joined
  pub chosen : (word : WordPlace) → edits_of word joined ≡ second_or_first (edits_of word first) (edits_of word second)
