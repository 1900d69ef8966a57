-- The first clash of programs, where no edits clash.
use Rattle.std.proofs.Common.{◌≡◌, List, [], Option, sym, ap, ◌∙◌, subst, inr}
use Rattle.y2k_base.specs.declared.edit.Edit.{Edit}
use Rattle.y2k_base.specs.declared.edit.WordPlace.{WordPlace}
use Rattle.y2k_base.specs.declared.text.Text.{Text}
use Rattle.y2k_base.specs.declared.word.Word.{Word}
use Rattle.plan_limits.specs.First.{IsFirst}
use Rattle.plan_limits.specs.declared.limit.Limit.{Limit}
use Rattle.source_edit.specs.declared.expansion.Sources.{Sources}
use Rattle.source_edit.specs.declared.fault.EditFault.{EditFault}
use Rattle.source_edit.specs.declared.fault.EditFault.TheVariants as fault
use Rattle.source_edit.specs.Applied.{AreEditedFrom, IsProgramClash, IsClash, HasClash}
use Rattle.source_edit.specs.Clashes.{changes_of, replacements_of, edit_clashes}
use Rattle.source_edit.specs.Expansions.{AreProgramClashes, sources_of}
use Rattle.source_edit.specs.Faults.{IsFaultOf}
use Rattle.source_edit.specs.Rows.{Changing}

module _ (texts new : List Text) (edits : List Edit) (limit : Limit) where
  known : (found clashes : List Limit) → found ≡ edit_clashes edits → found ≡ [] → AreEditedFrom (changes_of edits) 0 texts new
      → AreProgramClashes (replacements_of edits) (sources_of texts).books.list (sources_of new).books.list 0 (sources_of texts).programs (sources_of new).programs clashes
      → IsFirst clashes limit → IsProgramClash texts edits limit
  known found clashes are none edited have first =
      record { alike = sym are ∙ none; new = new; edited = edited; clashes = clashes; have = have; first = first }

  with_sources : (found clashes : List Limit) (change : Changing) (replacement : WordPlace → Option (List Word)) (before after : Sources)
      → found ≡ edit_clashes edits → found ≡ [] → change ≡ changes_of edits → replacement ≡ replacements_of edits → before ≡ sources_of texts → after ≡ sources_of new
      → AreEditedFrom change 0 texts new
      → AreProgramClashes replacement before.books.list after.books.list 0 before.programs after.programs clashes → IsFirst clashes limit → IsClash texts edits limit
  with_sources found clashes change replacement before after are none is_change is_replacement is_before is_after edited have first =
      inr (known found clashes are none
      (subst (λ (c : Changing). AreEditedFrom c 0 texts new) is_change edited)
      (subst (λ (r : WordPlace → Option (List Word)). AreProgramClashes r (sources_of texts).books.list (sources_of new).books.list 0 (sources_of texts).programs (sources_of new).programs clashes) is_replacement
      (subst (λ (s : Sources). AreProgramClashes replacement s.books.list (sources_of new).books.list 0 s.programs (sources_of new).programs clashes) is_before
      (subst (λ (s : Sources). AreProgramClashes replacement before.books.list s.books.list 0 before.programs s.programs clashes) is_after have)))
      first)

  -- the same of lists that are these
  pub is_clash : (es : List Edit) (old old' us : List Text) (found clashes : List Limit) (change : Changing) (replacement : WordPlace → Option (List Word)) (before after : Sources)
      → es ≡ edits → old ≡ texts → old' ≡ texts → us ≡ new
      → found ≡ edit_clashes es → found ≡ [] → change ≡ changes_of es → replacement ≡ replacements_of es → before ≡ sources_of old' → after ≡ sources_of us
      → AreEditedFrom change 0 old new
      → AreProgramClashes replacement before.books.list after.books.list 0 before.programs after.programs clashes → IsFirst clashes limit → IsClash texts edits limit
  is_clash es old old' us found clashes change replacement before after e f f' g are none is_change is_replacement is_before is_after edited have first =
      with_sources found clashes change replacement before after (are ∙ ap (λ (xs : List Edit). edit_clashes xs) e) none (is_change ∙ ap (λ (xs : List Edit). changes_of xs) e)
      (is_replacement ∙ ap (λ (xs : List Edit). replacements_of xs) e) (is_before ∙ ap (λ (xs : List Text). sources_of xs) f') (is_after ∙ ap (λ (xs : List Text). sources_of xs) g)
      (subst (λ (xs : List Text). AreEditedFrom change 0 xs new) f edited) have first

pub has_clash : (texts : List Text) (edits : List Edit) (limit : Limit) (f : EditFault) → IsFaultOf limit f → IsClash texts edits limit → HasClash texts edits f
has_clash texts edits limit (fault.CopyClash at first second) is clash = (limit, is, clash)
has_clash texts edits limit fault.Memory is clash = tt
