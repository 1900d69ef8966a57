-- What is computed and then gone on from.
use Rattle.std.specs.Prelude.{◌≡◌}
use Rattle.std.proofs.Common.{ap, ap₂, ◌∙◌, sym, Bool, arith, refl, ◌≤◌, List, [], ◌∷◌, length, true}
use Rattle.program_meaning.specs.Answer.{Answer, Gives}
use Rattle.program_meaning.specs.State.{World}
use Rattle.program_meaning.specs.Step.{attempt, has_end, with_storage}
use Rattle.program_meaning.specs.Tree.{StatementId}
use Rattle.program_meaning.specs.Tree as tree
use Rattle.cobol_syntax.specs.declared.statement.Statement.{Statement}
use Rattle.tree_reading.specs.Reading.{read_statements}
use Rattle.program_meaning.specs.Storage.{Storage}
use Rattle.run_control.specs.Held.{state_at, point_of, frames_of}
use Rattle.run_control.specs.Program.{Way}
use Rattle.run_control.specs.declared.position.Position.{Position}
use Rattle.trial_run.specs.Runs.{world_of, storage_of}
use Rattle.trial_run.specs.declared.run.Run.{Run}

-- a list that is not empty is an AT END
pub some_statements : (list : List Statement) (other : tree.Statements) → 1 ≤ length list → true ≡ has_end (tree.Present (read_statements list) other)
some_statements [] other some = absurd (omega (arith, some))
some_statements (x ∷ xs) other some = refl

module _ (old mid : Run) (new : Position) (position : mid.position ≡ old.position) where
  -- a way on from the same position
  moved : (way : Way) (w : World) → world_of mid ≡ w → way (point_of mid.position) (frames_of mid.position) (world_of mid) ≡ state_at new (world_of mid)
      → way (point_of old.position) (frames_of old.position) w ≡ state_at new (world_of mid)
  moved way w same leads = ap₂ (λ (p : Position) (v : World). way (point_of p) (frames_of p) v) (sym position) (sym same) ∙ leads

  -- after a change of storage
  pub went_store : (id : StatementId) (a : Answer Storage) (way : Way) → a ≡ Gives (storage_of mid) → world_of mid ≡ with_storage (world_of old) (storage_of mid)
      → way (point_of mid.position) (frames_of mid.position) (world_of mid) ≡ state_at new (world_of mid)
      → attempt id (world_of old) a (λ s. way (point_of old.position) (frames_of old.position) (with_storage (world_of old) s)) ≡ state_at new (world_of mid)
  went_store id a way is world leads =
      ap (λ (b : Answer Storage). attempt id (world_of old) b (λ s. way (point_of old.position) (frames_of old.position) (with_storage (world_of old) s))) is
      ∙ moved way (with_storage (world_of old) (storage_of mid)) world leads

  -- after a computation, with whether a size error came
  pub went_compute : (id : StatementId) (a : Answer (Bool × Storage)) (way : Bool → Way) (error : Bool) → a ≡ Gives (error, storage_of mid)
      → world_of mid ≡ with_storage (world_of old) (storage_of mid)
      → way error (point_of mid.position) (frames_of mid.position) (world_of mid) ≡ state_at new (world_of mid)
      → attempt id (world_of old) a (λ r. way r.0 (point_of old.position) (frames_of old.position) (with_storage (world_of old) r.1)) ≡ state_at new (world_of mid)
  went_compute id a way error is world leads =
      ap (λ (b : Answer (Bool × Storage)). attempt id (world_of old) b (λ r. way r.0 (point_of old.position) (frames_of old.position) (with_storage (world_of old) r.1))) is
      ∙ moved (way error) (with_storage (world_of old) (storage_of mid)) world leads

  -- after something that changes nothing
  pub went_value : {A : Type 0} (id : StatementId) (a : Answer A) (way : A → Way) (x : A) → a ≡ Gives x → world_of mid ≡ world_of old
      → way x (point_of mid.position) (frames_of mid.position) (world_of mid) ≡ state_at new (world_of mid)
      → attempt id (world_of old) a (λ b. way b (point_of old.position) (frames_of old.position) (world_of old)) ≡ state_at new (world_of mid)
  went_value id a way x is world leads =
      ap (λ b. attempt id (world_of old) b (λ y. way y (point_of old.position) (frames_of old.position) (world_of old))) is
      ∙ moved (way x) (world_of old) world leads
