-- The text statements of a program, each with the parts that have its first word, and their words with one receiver.
use Rattle.std.specs.Prelude.{ℕ, ◌+◌, ◌==◌, Bool, false, List, [], ◌∷◌, ◌++◌, min, Option, Some, None, if◌then◌else◌}
use Rattle.y2k_base.specs.declared.edit.Edit.{Edit}
use Rattle.y2k_base.specs.declared.word.Word.{Word}
use Rattle.cobol_syntax.specs.declared.place.Place.{Place}
use Rattle.statement_places.specs.Parts.{Seen, Move, Compute, Accept, Test}
use Rattle.statement_words.specs.declared.group.Receiver.{Receiver}
use Rattle.statement_words.specs.Edited.{between}

-- a receiver in a text statement that begins at `at` and ends before `end`
pub record Receives : Type 0 where
  pub at : ℕ
  pub end : ℕ
  pub to : Place
  pub rounded : Bool

abbrev pub received : Receiver → Receives
received r = record { at = r.at; end = r.end; to = r.to.now; rounded = r.rounded }

abbrev pub receives : Seen → Option Receives
receives (Move at end from to) = Some (record { at = at; end = end; to = to; rounded = false })
receives (Compute at end to rounded value) = Some (record { at = at; end = end; to = to; rounded = rounded })
receives (Accept at end to from) = Some (record { at = at; end = end; to = to; rounded = false })
receives (Test of) = None

abbrev pub is_at : ℕ → Option Receives → Bool
is_at at None = false
is_at at (Some other) = other.at == at

abbrev pub are_of_one : Option Receives → Seen → Bool
are_of_one None other = false
are_of_one (Some first) other = is_at first.at (receives other)

-- both have a receiver of the text statement with that first word
abbrev pub is_with : Seen → Seen → Bool
is_with first other = are_of_one (receives first) other

-- a part in front of groups is of the first group, or one of its own
abbrev pub onto : Seen → List (List Seen) → List (List Seen)
onto x [] = (x ∷ []) ∷ []
onto x ([] ∷ groups) = (x ∷ []) ∷ groups
onto x ((y ∷ group) ∷ groups) = if is_with x y then (x ∷ y ∷ group) ∷ groups else (x ∷ []) ∷ (y ∷ group) ∷ groups

-- the parts of each text statement
abbrev pub groups : List Seen → List (List Seen)
groups [] = []
groups (x ∷ parts) = onto x (groups parts)

-- the position behind a receiver, and behind its ROUNDED
abbrev pub receiver_end : Place → Bool → ℕ
receiver_end to rounded = if rounded then min (to.end + 1) 4294967295 else to.end

abbrev pub end_of : Option Receives → ℕ
end_of None = 0
end_of (Some receiver) = receiver_end receiver.to receiver.rounded

-- the position behind the last of receivers, the one before which ends there
abbrev pub last_end : ℕ → List Seen → ℕ
last_end end [] = end
last_end end (part ∷ parts) = last_end (end_of (receives part)) parts

abbrev pub group_end : List Seen → ℕ
group_end = last_end 0

abbrev pub before : ℕ → List Word → List Edit → Option Receives → List Word
before program words edits None = []
before program words edits (Some receiver) = between program words edits receiver.at receiver.to.at

-- the words before the first receiver
abbrev pub head : ℕ → List Word → List Edit → List Seen → List Word
head program words edits [] = []
head program words edits (part ∷ parts) = before program words edits (receives part)

-- those of a receiver with its ROUNDED
abbrev pub receiver : ℕ → List Word → List Edit → Place → Bool → List Word
receiver program words edits to rounded = between program words edits to.at (receiver_end to rounded)

abbrev pub alone_with : ℕ → List Word → List Edit → List Seen → Option Receives → List Word
alone_with program words edits group None = []
alone_with program words edits group (Some one) =
    head program words edits group ++ (receiver program words edits one.to one.rounded ++ between program words edits (group_end group) one.end)

-- the text statement with the receiver of one part alone: what stands before and behind all receivers stays
abbrev pub alone : ℕ → List Word → List Edit → List Seen → Seen → List Word
alone program words edits group part = alone_with program words edits group (receives part)
