-- What is left of a list behind a part of it.
use Rattle.std.proofs.Common.{◌≡◌, ℕ, ◌-◌, ◌++◌, ◌∷◌, List, length, map, take, drop, sym, ap, ◌∙◌, subst, arith}
use Rattle.std.proofs.lemmas.List.{append_assoc, length-append, take-append-drop, drop_at}
use Rattle.y2k_base.specs.declared.edit.Edit.{Edit}
use Rattle.statement_places.specs.declared.parts.Part.{Part}
use Rattle.statement_places.specs.Parts.{Seen, seen}
use Rattle.statement_words.specs.Groups.{groups}
use Rattle.expand_rewrite.specs.Old.{Old}
use Rattle.expand_rewrite.specs.Statements.{group_edits, groups_edits}

pub rest_is : {A : Type 0} (parts : List A) (from : ℕ) (g more : List A) → drop from parts ≡ g ++ more → drop (length parts - length more) parts ≡ more
rest_is {A} parts from g more is =
    subst (λ (xs : List A). drop (length xs - length more) xs ≡ more)
    (append_assoc (take from parts) g more ∙ ap (λ (xs : List A). take from parts ++ xs) (sym is) ∙ take-append-drop from parts)
    (drop_at (take from parts ++ g) more (length ((take from parts ++ g) ++ more) - length more) (omega (arith, length-append (take from parts ++ g) more)))

-- the edits of the first of text statements and of those behind it
pub first_and_rest : (p : Old) (old new : List Edit) (parts : List Part) (from : ℕ) (rest g more : List Part) → rest ≡ drop from parts → rest ≡ g ++ more
    → groups (map seen rest) ≡ map seen g ∷ groups (map seen more) → new ≡ old ++ group_edits p (map seen g)
    → new ++ groups_edits p (groups (map seen (drop (length parts - length more) parts))) ≡ old ++ groups_edits p (groups (map seen (drop from parts)))
first_and_rest p old new parts from rest g more behind is split added =
    ap (λ (xs : List Part). new ++ groups_edits p (groups (map seen xs))) (rest_is parts from g more (sym behind ∙ is))
    ∙ ap (λ (xs : List Edit). xs ++ groups_edits p (groups (map seen more))) added
    ∙ append_assoc old (group_edits p (map seen g)) (groups_edits p (groups (map seen more)))
    ∙ ap (λ (gs : List (List Seen)). old ++ groups_edits p gs) (sym split)
    ∙ ap (λ (xs : List Part). old ++ groups_edits p (groups (map seen xs))) behind
