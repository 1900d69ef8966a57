use Rattle.std.proofs.Common.{◌≡◌, ℕ, ◌∷◌, [], List, get_or, codes, sym, ap, subst}
use Rattle.trial_run.specs.declared.day.Day.{Day}
use Rattle.annodomini_cli.specs.Command.{IsNoRun, IsTask}
use Rattle.annodomini_cli.proofs.run_words.run_in.Goals as goal

abbrev word : ℕ → List (List ℕ) → List ℕ
word k ws = get_or ws k []

-- six words of which the first is another
other-form : (form main job date number out : List ℕ) → (form ≡ codes "run" → ⊥) → IsNoRun (form ∷ main ∷ job ∷ date ∷ number ∷ out ∷ [])
other-form form main job date number out not = λ m j d b o is. not (ap (word 0) is.are)

-- six words that name nothing to be run
no-task : (form main job date number out : List ℕ) → ((day : Day) (bound : ℕ) → IsTask main date number out day bound → ⊥) → IsNoRun (form ∷ main ∷ job ∷ date ∷ number ∷ out ∷ [])
no-task form main job date number out not = λ m j d b o is. not d b
    (subst (λ (x : List ℕ). IsTask x date number out d b) (sym (ap (word 1) is.are))
    (subst (λ (x : List ℕ). IsTask m x number out d b) (sym (ap (word 3) is.are))
    (subst (λ (x : List ℕ). IsTask m is.date x out d b) (sym (ap (word 4) is.are))
    (subst (λ (x : List ℕ). IsTask m is.date is.number x d b) (sym (ap (word 5) is.are)) is.task))))

pub returns-in-None-clause-none : goal.returns-in-None-clause-none
returns-in-None-clause-none c = no-task _ _ _ _ _ _ c.in-None.ensures.none
