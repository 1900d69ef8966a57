-- A MOVE of a literal to receivers that want different words becomes several MOVE statements.
use Rattle.std.specs.Prelude.{ℕ, ◌+◌, Bool, false, not, List, [], ◌∷◌, ◌++◌, slice_get, Option, Some, None, if◌then◌else◌}
use Rattle.std.specs.List.{list_any}
use Rattle.y2k_base.specs.declared.edit.Edit.{Edit}
use Rattle.y2k_base.specs.declared.word.Word.{Word}
use Rattle.cobol_syntax.specs.declared.expr.Operand.{Operand}
use Rattle.cobol_syntax.specs.declared.place.Place.{Place}
use Rattle.date_uses.specs.declared.uses.Used.{Used}
use Rattle.date_uses.specs.Places.{operand_used, place_used}
use Rattle.literal_images.specs.declared.meeting.Meeting.TheVariants as meetings
use Rattle.literal_images.specs.Images.{image}
use Rattle.word_wishes.specs.Chosen.{is_same}
use Rattle.word_wishes.specs.Literals.{literal_at}
use Rattle.word_wishes.specs.Wishes.{wanted_word}
use Rattle.statement_places.specs.Parts.{Seen, Move, Compute, Accept, Test}
use Rattle.statement_words.specs.Edited.{between, stretch}
use Rattle.statement_words.specs.Groups.{group_end, receiver}
use Rattle.expand_rewrite.specs.Old.{Old}

-- the word that a receiver wants in place of the literal
abbrev pub word_for : Old → Word → Used → Place → Word
word_for p old literal to = wanted_word old (image p.modes meetings.Moved literal (place_used p.layout to))

abbrev pub word_if : Old → Word → Used → Seen → List Word
word_if p old literal (Move at end from to) = word_for p old literal to ∷ []
word_if p old literal (Compute at end to rounded value) = []
word_if p old literal (Accept at end to from) = []
word_if p old literal (Test of) = []

abbrev pub words_for : Old → Word → Used → List Seen → List Word
words_for p old literal [] = []
words_for p old literal (part ∷ parts) = word_if p old literal part ++ words_for p old literal parts

abbrev pub differs : Word → Word → Bool
differs word other = not (is_same word other)

abbrev pub differ : List Word → Bool
differ [] = false
differ (word ∷ words) = list_any (differs word) words

-- MOVE, that word, TO and the receiver
abbrev pub move : Old → Word → ℕ → Place → List Word
move p word at to =
    between p.number p.words p.edits at (at + 1)
    ++ (word ∷ (between p.number p.words p.edits ((at + 1) + 1) (((at + 1) + 1) + 1) ++ receiver p.number p.words p.edits to false))

abbrev pub move_if : Old → Word → Seen → List Word
move_if p word (Move at end from to) = move p word at to
move_if p word (Compute at end to rounded value) = []
move_if p word (Accept at end to from) = []
move_if p word (Test of) = []

-- each part with its word
abbrev pub moves : Old → List Seen → List Word → List Word
moves p [] words = []
moves p (part ∷ parts) [] = []
moves p (part ∷ parts) (word ∷ words) = move_if p word part ++ moves p parts words

abbrev pub moves_if : Old → ℕ → List Seen → List Word → List Edit
moves_if p at group words = if differ words then stretch p.number p.words at (group_end group) (moves p group words) else []

abbrev pub moves_over : Old → ℕ → Used → List Seen → Option Word → List Edit
moves_over p at literal group None = []
moves_over p at literal group (Some old) = moves_if p at group (words_for p old literal group)

abbrev pub moves_at : Old → ℕ → Used → List Seen → Option ℕ → List Edit
moves_at p at literal group None = []
moves_at p at literal group (Some position) = moves_over p at literal group (slice_get p.words position)

abbrev pub moves_of : Old → ℕ → Used → List Seen → List Edit
moves_of p at sender group = moves_at p at sender group (literal_at sender)

-- a MOVE that begins there, with all its receivers
abbrev pub moves_edits : Old → ℕ → Operand → List Seen → List Edit
moves_edits p at from group = moves_of p at (operand_used p.layout from) group
