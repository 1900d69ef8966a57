use Rattle.std.proofs.Common.{◌≡◌, ℕ, List, [], ◌∷◌, Option, Some, None, get_or, codes, sym, ◌∙◌, ap, subst}
use Rattle.shelf.specs.Contents.{Files}
use Rattle.run_command.specs.Answer as running
use Rattle.run_command.specs.Words.{day_of, bound_of}
use Rattle.trial_run.specs.declared.day.Day.{Day}
use Rattle.annodomini_cli.specs.Command.{IsRun}
use Rattle.annodomini_cli.proofs.top.run_or_usage.Goals as goal

-- the word at a place
abbrev word : ℕ → List (List ℕ) → List ℕ
word k ws = get_or ws k []

abbrev some_or : {A : Type 0} → A → Option A → A
some_or a None = a
some_or a (Some b) = b

-- words that ask for a job in two ways ask for one job
same-run : (words : List (List ℕ)) (main job out main' job' out' : List ℕ) (day day' : Day) (bound bound' : ℕ) (told now : Option Files) (before after : Option (List ℕ)) (status : ℕ)
    → IsRun words main job day bound out → IsRun words main' job' day' bound' out' → running.IsAnswered (running.IsAnswer told main job day bound out) before after now status
    → running.IsAnswered (running.IsAnswer told main' job' day' bound' out') before after now status
same-run words main job out main' job' out' day day' bound bound' told now before after status is so answered =
    let e : codes "run" ∷ main ∷ job ∷ is.date ∷ is.number ∷ out ∷ [] ≡ codes "run" ∷ main' ∷ job' ∷ so.date ∷ so.number ∷ out' ∷ [] = sym is.are ∙ so.are in
    let days : day ≡ day' = ap (some_or day) (sym is.task.is_day ∙ (ap day_of (ap (word 3) e) ∙ so.task.is_day)) in
    let bounds : bound ≡ bound' = ap (some_or bound) (sym is.task.is_bound ∙ (ap bound_of (ap (word 4) e) ∙ so.task.is_bound)) in
    subst (λ (m : List ℕ). running.IsAnswered (running.IsAnswer told m job' day' bound' out') before after now status) (ap (word 1) e)
    (subst (λ (j : List ℕ). running.IsAnswered (running.IsAnswer told main j day' bound' out') before after now status) (ap (word 2) e)
    (subst (λ (d : Day). running.IsAnswered (running.IsAnswer told main job d bound' out') before after now status) days
    (subst (λ (b : ℕ). running.IsAnswered (running.IsAnswer told main job day b out') before after now status) bounds
    (subst (λ (o : List ℕ). running.IsAnswered (running.IsAnswer told main job day bound o) before after now status) (ap (word 5) e) answered))))

pub returns-in-Some-clause-run : goal.returns-in-Some-clause-run
returns-in-Some-clause-run g c =
    λ main job day bound into is. same-run _ _ _ _ main job into _ day _ bound _ _ _ _ _ c.in-Some.ensures.found is c.report_run.ensures.answer

pub returns-in-None-clause-run : goal.returns-in-None-clause-run
returns-in-None-clause-run g c = λ main job day bound into is. absurd (c.in-None.ensures.none main job day bound into is)
