-- The file's own part of a statement, before its status is told.
use Rattle.std.specs.Prelude.{◌≡◌, ◌==◌, ℕ, List, cond}
use Rattle.program_meaning.specs.Files.{Done}
use Rattle.program_meaning.specs.Layout.{Span}
use Rattle.program_meaning.specs.Storage.{Storage, write}
use Rattle.program_meaning.specs.State as state
use Rattle.program_meaning.specs.State.{Shown}
use Rattle.program_meaning.specs.Step.{with_record, after_call}
use Rattle.seq_files.specs.Codes.{code}
use Rattle.seq_files.specs.declared.status.Status.{Status}
use Rattle.file_statements.specs.declared.unit.RunUnit.{RunUnit}
use Rattle.file_statements.specs.Units.{world_of}

-- at 00 the record that was read stands in its span
abbrev pub recorded : Status → Storage → Span → List ℕ → Storage
recorded s store span bs = cond (code s == 0) (write store span bs) store

-- the call was done, with this status: the file is as after it, the record that was read stands in its area, and all
-- else is as it was
pub record HasDone (c : state.Channel) (d : Done) (old new : RunUnit) (s : Status) : Type 0 where
  pub status : code s ≡ d.status
  pub world : (shown : List Shown) → with_record c d.got (after_call (world_of old shown) c d) ≡ world_of new shown
