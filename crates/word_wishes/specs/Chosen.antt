-- The edits that wanted words come to.
use Rattle.std.specs.Prelude.{◌≡◌, ℕ, Bool, true, false, ◌&&◌, ◌==◌, List, [], ◌∷◌, ◌++◌, slice_get, Option, Some, None, if◌then◌else◌}
use Rattle.std.specs.List.{list_any}
use Rattle.std.specs.Str.{bytes_eq}
use Rattle.y2k_base.specs.declared.edit.Edit.{Edit}
use Rattle.y2k_base.specs.declared.edit.WordPlace.{WordPlace}
use Rattle.y2k_base.specs.declared.word.Word.{Word}
use Rattle.y2k_base.specs.declared.word.WordKind.{WordKind}
use Rattle.y2k_base.specs.declared.word.WordKind.TheVariants as kinds
use Rattle.y2k_base.specs.Edits.{AreInOrder, edits_of}
use Rattle.cobol_syntax.specs.declared.program.Program.{Program}

abbrev pub kind_number : WordKind → ℕ
kind_number kinds.Name = 0
kind_number kinds.Number = 1
kind_number kinds.Literal = 2
kind_number kinds.Picture = 3
kind_number kinds.Mark = 4

-- words of one kind and text
abbrev pub is_same : Word → Word → Bool
is_same a b = kind_number a.kind == kind_number b.kind && bytes_eq a.text b.text

abbrev pub are_same : List Word → List Word → Bool
are_same [] [] = true
are_same [] (b ∷ others) = false
are_same (a ∷ words) [] = false
are_same (a ∷ words) (b ∷ others) = is_same a b && are_same words others

-- the wish is for the same words
abbrev pub wants : List Word → Edit → Bool
wants words wish = are_same wish.words words

abbrev pub with_wish : List Edit → Edit → List Edit
with_wish seen wish = if list_any (wants wish.words) seen then seen else seen ++ wish ∷ []

-- those of the wishes that are for other words than all before them
abbrev pub different : List Edit → List Edit → List Edit
different seen [] = seen
different seen (wish ∷ wishes) = different (with_wish seen wish) wishes

abbrev pub words_in : Option Program → List Word
words_in None = []
words_in (Some program) = program.words

abbrev pub words_of : List Program → ℕ → List Word
words_of programs number = words_in (slice_get programs number)

abbrev pub is_word : List Word → Word → Bool
is_word [] old = false
is_word (word ∷ []) old = is_same word old
is_word (word ∷ (other ∷ words)) old = false

abbrev pub is_kept_by : List Word → Option Word → Bool
is_kept_by words None = false
is_kept_by words (Some old) = is_word words old

-- the wish is for the word that stands there
abbrev pub is_kept : List Program → Edit → Bool
is_kept programs wish = is_kept_by wish.words (slice_get (words_of programs wish.program) wish.position)

-- wishes for different words of one place leave it as it is
abbrev pub are_kept : List Program → List Edit → Bool
are_kept programs [] = true
are_kept programs (wish ∷ []) = is_kept programs wish
are_kept programs (wish ∷ (other ∷ wishes)) = false

abbrev pub unless_kept : List Program → List Edit → List Edit
unless_kept programs wishes = if are_kept programs wishes then [] else wishes

-- what all the wishes for one place come to: an edit for each different word, in their order, or none where all of them are for
-- the word that stands there
abbrev pub come_to : List Program → List Edit → List Edit
come_to programs wishes = unless_kept programs (different [] wishes)

-- by program and position, and at each place what the wishes for it come to
pub record AreChosen (programs : List Program) (wishes edits : List Edit) : Type 0 where
  pub ordered : AreInOrder edits
  pub chosen : (place : WordPlace) → edits_of place edits ≡ come_to programs (edits_of place wishes)
