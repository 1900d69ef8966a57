use Rattle.std.proofs.Common.{◌≡◌, ℕ, Bool, if◌then◌else◌, List, Option, inl, inr, refl, sym, ◌∙◌, subst}
use Rattle.shelf.specs.Contents.{Files}
use Rattle.answers.specs.Said.{IsSaid}
use Rattle.label_command.specs.declared.refusal.Refusal.{Refusal}
use Rattle.label_command.specs.Answer.{AreLabelsOf, HasCause, IsAnswered, line_of, status_of}
use Rattle.label_command.proofs.command.label_one.Goals as goal

answered : (source item : List ℕ) (told : Option Files) (before after : Option (List ℕ)) (clean : Bool)
    (text said : List ℕ) (wanted status : ℕ) → AreLabelsOf source item told clean text → wanted ≡ (if clean then 0 else 1) → said ≡ text
    → IsSaid wanted said before after status → IsAnswered source item told before after status
answered source item told before after clean text said wanted status labels is same (inl printed) =
    inl (said, printed.1, inl (clean, subst (AreLabelsOf source item told clean) (sym same) labels, printed.0 ∙ is))
answered source item told before after clean text said wanted status labels is same (inr fault) = inr fault

pub returns-in-Ok-clause-answer : goal.returns-in-Ok-clause-answer
returns-in-Ok-clause-answer g c =
    answered c.args.source.now c.args.item.now _ _ _ c.in-Ok.labels.clean _ _ _ _
    c.in-Ok.ensures.labels c.status_for.ensures c.items.ensures c.say.ensures.said

refused : (source item : List ℕ) (told : Option Files) (before after : Option (List ℕ)) (refusal : Refusal) (status : ℕ) → HasCause source item told refusal
    → IsSaid (status_of refusal) (line_of source item refusal) before after status → IsAnswered source item told before after status
refused source item told before after refusal status cause (inl printed) =
    inl (line_of source item refusal, printed.1, inr (refusal, cause, printed.0, refl))
refused source item told before after refusal status cause (inr fault) = inr fault

pub returns-in-Err-clause-answer : goal.returns-in-Err-clause-answer
returns-in-Err-clause-answer g c =
    refused c.args.source.now c.args.item.now _ _ _ c.in-Err.refusal _ c.in-Err.ensures.cause c.refuse.ensures.said
