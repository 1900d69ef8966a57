-- Words that differ where the same words have to stand.
use Rattle.std.specs.Prelude.{ℕ, suc, Bool, ◌==◌, ◌&&◌, if◌then◌else◌, List, [], ◌∷◌, ◌++◌, length, Option, Some, None, slice_get}
use Rattle.y2k_base.specs.Edits.{word_of}
use Rattle.y2k_base.specs.declared.edit.Edit.{Edit}
use Rattle.y2k_base.specs.declared.edit.WordPlace.{WordPlace}
use Rattle.y2k_base.specs.declared.word.Origin.{Origin}
use Rattle.y2k_base.specs.declared.word.Word.{Word}
use Rattle.std.specs.Str.{bytes_eq}
use denote.Enum.Bare.{sameb}
use Rattle.y2k_base.specs.contracts.word.WordKind.{the_type}
use Rattle.plan_limits.specs.declared.limit.Limit.{Limit}
use Rattle.plan_limits.specs.declared.limit.LimitKind.TheVariants as kinds
use Rattle.plan_limits.specs.declared.limit.Kept.TheVariants as kept
use Rattle.source_edit.specs.Changes.{nothing, none_replaced, with_change, with_replacement}

-- equal kind and text
unfoldable pub same_words : Word → Word → Bool
same_words a b = sameb the_type a.kind b.kind && bytes_eq a.text b.text

-- how many words stand first that are the same in kind and text
abbrev pub same_count : List Word → List Word → ℕ
same_count [] bs = 0
same_count (a ∷ more) [] = 0
same_count (a ∷ more) (b ∷ bs) = if same_words a b then suc (same_count more bs) else 0

-- the words are the same, whatever their origins
abbrev pub are_alike : List Word → List Word → Bool
are_alike first second = same_count first second == length first && same_count first second == length second

-- the text of a word, empty where there is none
abbrev pub text_of : Option Word → List ℕ
text_of None = []
text_of (Some word) = word.text

abbrev pub text_at : List Word → ℕ → List ℕ
text_at words i = text_of (slice_get words i)

abbrev pub clash : Origin → List ℕ → List ℕ → Limit
clash at first second = record { kind = kinds.CopyClash; at = at; kept = kept.Words first second }

-- the first two words that differ
abbrev pub first_difference : Origin → List Word → List Word → Limit
first_difference at first second = clash at (text_at first (same_count first second)) (text_at second (same_count first second))

-- an earlier edit of an origin and a later one clash where their words differ
abbrev pub clash_of : Origin → List Word → List Word → List Limit
clash_of at earlier later = if are_alike earlier later then [] else first_difference at earlier later ∷ []

abbrev pub clash_if : Origin → Option (List Word) → List Word → List Limit
clash_if at None later = []
clash_if at (Some earlier) later = clash_of at earlier later

abbrev pub clash_with : (Origin → Option (List Word)) → Edit → List Limit
clash_with before e = clash_if e.at (before e.at) e.words

abbrev pub unless_there : Option (List Word) → (Origin → Option (List Word)) → Edit → Origin → Option (List Word)
unless_there None before e = with_change before e.at e.words
unless_there (Some words) before e = before

-- the first edit of an origin counts
abbrev pub with_edit : (Origin → Option (List Word)) → Edit → Origin → Option (List Word)
with_edit before e = unless_there (before e.at) before e

abbrev pub changes_after : (Origin → Option (List Word)) → List Edit → Origin → Option (List Word)
changes_after before [] = before
changes_after before (e ∷ es) = changes_after (with_edit before e) es

-- the words that edits put in the place of the word at each origin
abbrev pub changes_of : List Edit → Origin → Option (List Word)
changes_of edits = changes_after nothing edits

abbrev pub replacements_after : (WordPlace → Option (List Word)) → List Edit → WordPlace → Option (List Word)
replacements_after before [] = before
replacements_after before (e ∷ es) = replacements_after (with_replacement before (word_of e) e.words) es

-- the words that edits put in the place of the word at each position
abbrev pub replacements_of : List Edit → WordPlace → Option (List Word)
replacements_of edits = replacements_after none_replaced edits

abbrev pub clashes_after : (Origin → Option (List Word)) → List Edit → List Limit
clashes_after before [] = []
clashes_after before (e ∷ es) = clash_with before e ++ clashes_after (with_edit before e) es

-- the clashes of edits: each of several edits of one origin is held against the first
abbrev pub edit_clashes : List Edit → List Limit
edit_clashes edits = clashes_after nothing edits
