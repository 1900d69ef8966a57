-- First laws: where a task is at hand nothing is settled, and runs follow one another.
use Rattle.std.proofs.Common.{◌≡◌, ℕ, zero, suc, ◌+◌, List, [], ◌∷◌, refl, ap, ◌∙◌, arith}
use Rattle.program_meaning.specs.Tree.{StatementId, Statements, Paragraph}
use Rattle.program_meaning.specs.State.{Program, Task, Frame, State, point, settle, World, Stopped, Faulted}
use Rattle.program_meaning.specs.Answer.{Fault}
use Rattle.program_meaning.specs.Step.{Calendar, step, run}

pub settle-task : (fs : List Frame) (t : Task) (ts : List Task) (ss : List Statements) (ps : List Paragraph) →
    settle fs (point (t ∷ ts) ss ps) ≡ (point (t ∷ ts) ss ps, fs)
settle-task [] t ts ss ps = refl
settle-task (f ∷ fs) t ts ss ps = refl

module _ (program : Program) (day : Calendar) where
  pub run-add : (k m : ℕ) (s : State) → run program day (k + m) s ≡ run program day m (run program day k s)
  run-add zero m s = let e : zero + m ≡ m = omega arith in ap (λ n. run program day n s) e
  run-add (suc k) m s =
      let e : suc k + m ≡ suc (k + m) = omega arith in
      ap (λ n. run program day n s) e ∙ run-add k m (step program day s)

  -- a program that has ended stays as it is
  pub run-stopped : (n : ℕ) (w : World) → run program day n (Stopped w) ≡ Stopped w
  run-stopped zero w = refl
  run-stopped (suc n) w = run-stopped n w

  pub run-faulted : (n : ℕ) (e : Fault) (id : StatementId) (w : World) → run program day n (Faulted e id w) ≡ Faulted e id w
  run-faulted zero e id w = refl
  run-faulted (suc n) e id w = run-faulted n e id w
