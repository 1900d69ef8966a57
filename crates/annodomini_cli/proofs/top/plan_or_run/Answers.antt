use Rattle.std.proofs.Common.{◌≡◌, ℕ, List, [], ◌∷◌, Option, sym, ◌∙◌, ap, subst}
use Rattle.shelf.specs.Contents.{Files}
use Rattle.label_report.specs.Answer as report
use Rattle.plan_command.specs.Answer as planning
use Rattle.trial_run.specs.declared.day.Day.{Day}
use Rattle.annodomini_cli.specs.Command.{IsPlan, IsRun}
use Rattle.annodomini_cli.proofs.top.plan_or_run.Goals as goal

abbrev second : List (List ℕ) → List ℕ
second (a ∷ b ∷ ws) = b
second _ = []

same-plan : (words : List (List ℕ)) (main other : List ℕ) (told : Option Files) (before after : Option (List ℕ)) (status : ℕ)
    → IsPlan words main → IsPlan words other → report.IsAnswered (planning.IsAnswer main told) before after status
    → report.IsAnswered (planning.IsAnswer other told) before after status
same-plan words main other told before after status is so answered =
    subst (λ (m : List ℕ). report.IsAnswered (planning.IsAnswer m told) before after status) (sym (ap second is.0) ∙ ap second so.0) answered

two_or_six : (a b d e f g h i : List ℕ) → a ∷ b ∷ [] ≡ d ∷ e ∷ f ∷ g ∷ h ∷ i ∷ [] → ⊥
two_or_six a b d e f g h i is = cc

plan_or : (words : List (List ℕ)) (main other job : List ℕ) (day : Day) (bound : ℕ) (into : List ℕ) → IsPlan words main → IsRun words other job day bound into → ⊥
plan_or words main other job day bound into is so = two_or_six _ _ _ _ _ _ _ _ (sym is.0 ∙ so.are)

pub returns-in-Some-clause-usage : goal.returns-in-Some-clause-usage
returns-in-Some-clause-usage g c = λ none. absurd (none _ c.in-Some.ensures.found)

pub returns-in-Some-clause-plan : goal.returns-in-Some-clause-plan
returns-in-Some-clause-plan g c = λ main is. same-plan _ _ main _ _ _ _ c.in-Some.ensures.found is c.report_plan.ensures.answer

pub returns-in-Some-clause-run : goal.returns-in-Some-clause-run
returns-in-Some-clause-run g c = λ main job day bound into is. absurd (plan_or _ _ main job day bound into c.in-Some.ensures.found is)

pub returns-in-None-clause-plan : goal.returns-in-None-clause-plan
returns-in-None-clause-plan g c = λ main is. absurd (c.in-None.ensures.none main is)
