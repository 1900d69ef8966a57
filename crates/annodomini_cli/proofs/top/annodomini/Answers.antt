use Rattle.std.proofs.Common.{◌≡◌, ℕ, List, [], ◌∷◌, Option, sym, ◌∙◌, ap, subst}
use Rattle.shelf.specs.Contents.{Files}
use Rattle.label_command.specs.Answer.{IsAnswered}
use Rattle.label_report.specs.Answer as report
use Rattle.annodomini_cli.specs.Command.{IsLabel, IsLabelOne}
use Rattle.annodomini_cli.proofs.Forms.{label_one_or, label_or_plan, manifest_or}
use Rattle.annodomini_cli.proofs.top.annodomini.Goals as goal

abbrev second : List (List ℕ) → List ℕ
second (a ∷ b ∷ ws) = b
second _ = []

abbrev third : List (List ℕ) → List ℕ
third (a ∷ b ∷ c ∷ ws) = c
third _ = []

-- words that are one form in two ways are so in one way
same-form : (words : List (List ℕ)) (source item other object : List ℕ) (told : Option Files) (before after : Option (List ℕ)) (status : ℕ)
    → IsLabelOne words source item → IsLabelOne words other object → IsAnswered source item told before after status
    → IsAnswered other object told before after status
same-form words source item other object told before after status is so answered =
    subst (λ (s : List ℕ). IsAnswered s object told before after status) (sym (ap second is.0) ∙ ap second so.0)
    (subst (λ (i : List ℕ). IsAnswered source i told before after status) (sym (ap third is.0) ∙ ap third so.0) answered)

same-label : (words : List (List ℕ)) (main other : List ℕ) (told : Option Files) (before after : Option (List ℕ)) (status : ℕ)
    → IsLabel words main → IsLabel words other → report.IsAnswered (report.IsAnswer main told) before after status
    → report.IsAnswered (report.IsAnswer other told) before after status
same-label words main other told before after status is so answered =
    subst (λ (m : List ℕ). report.IsAnswered (report.IsAnswer m told) before after status) (sym (ap second is.0) ∙ ap second so.0) answered

pub returns-in-Some-clause-usage : goal.returns-in-Some-clause-usage
returns-in-Some-clause-usage g c = λ none. absurd (none.no_label_one _ _ c.in-Some.ensures.found)

pub returns-in-Some-clause-label_one : goal.returns-in-Some-clause-label_one
returns-in-Some-clause-label_one g c = λ source item is. same-form _ _ _ source item _ _ _ _ c.in-Some.ensures.found is c.label_one.ensures.answer

pub returns-in-Some-clause-label : goal.returns-in-Some-clause-label
returns-in-Some-clause-label g c = λ main is. absurd (label_one_or _ _ _ _ main c.in-Some.ensures.found is)

pub returns-in-Some-manifest_of-clause-label : goal.returns-in-Some-manifest_of-clause-label
returns-in-Some-manifest_of-clause-label g c =
    λ main is. same-label _ _ main _ _ _ _ c.in-Some-manifest_of.ensures.found is c.report_labels.ensures.answer

pub returns-in-None-manifest_of-clause-label_one : goal.returns-in-None-manifest_of-clause-label_one
returns-in-None-manifest_of-clause-label_one g c = λ source item is. absurd (c.in-None.ensures.none source item is)

pub returns-in-Some-clause-plan : goal.returns-in-Some-clause-plan
returns-in-Some-clause-plan g c = λ main is. absurd (label_one_or _ _ _ _ main c.in-Some.ensures.found is)

pub returns-in-Some-manifest_of-clause-plan : goal.returns-in-Some-manifest_of-clause-plan
returns-in-Some-manifest_of-clause-plan g c = λ main is. absurd (manifest_or _ _ _ _ main label_or_plan c.in-Some-manifest_of.ensures.found is)

pub returns-in-None-manifest_of-clause-no_form : goal.returns-in-None-manifest_of-clause-no_form
returns-in-None-manifest_of-clause-no_form g c = λ two. record {
  no_label_one = c.in-None.ensures.none;
  no_label = c.in-None-manifest_of.ensures.none;
  no_plan = c.plan_or_run.ensures.no_plan two;
  no_run = c.plan_or_run.ensures.no_run two;
  no_conversion = c.plan_or_run.ensures.no_conversion two;
}
