use Rattle.std.proofs.Common.{ℕ, List, Bool, subst}
use Rattle.name_tables.specs.Names.{NonePasses, IsLeast}
use Rattle.file_uses.specs.Names.{list_of, name_by, unknown_by}
use Rattle.file_uses.specs.Files.{unlike_by, AreUnlike}
use Rattle.file_uses.proofs.whole.files_of.Goals as goal

pub returns-in-Ok-alike_files-clause-known : goal.returns-in-Ok-alike_files-clause-known
returns-in-Ok-alike_files-clause-known c =
    subst (λ (known : List ℕ → Bool). NonePasses (unknown_by known (list_of c.args.files) c.args.programs.now)) c.in_ok-known.ensures.known c.in-Ok.ensures.right

pub returns-in-Ok-alike_files-clause-lengths : goal.returns-in-Ok-alike_files-clause-lengths
returns-in-Ok-alike_files-clause-lengths c =
    subst (λ (names : List ℕ → List ℕ). NonePasses (unlike_by names c.args.programs.now c.args.layouts.now)) c.in_ok-known.ensures.names c.in-Ok-alike_files.ensures.lengths

pub returns-in-Err-Lengths-clause-fault : goal.returns-in-Err-Lengths-clause-fault
returns-in-Err-Lengths-clause-fault c = (
  subst (λ (known : List ℕ → Bool). NonePasses (unknown_by known (list_of c.args.files) c.args.programs.now)) c.in_ok-known.ensures.known c.in-Ok.ensures.right,
  subst (λ (names : List ℕ → List ℕ). IsLeast (unlike_by names c.args.programs.now c.args.layouts.now) c.in-Err-Lengths.name) c.in_ok-known.ensures.names
      (subst (AreUnlike (unlike_by (name_by c.in_ok-known.known) c.args.programs.now c.args.layouts.now)) c.in-Err-Lengths.field-0-is c.in-Err-Lengths.ensures.fault),
)
