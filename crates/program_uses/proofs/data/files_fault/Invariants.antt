use Rattle.std.proofs.Common.{◌≡◌, drop, None}
use Rattle.program_uses.specs.Names.{known}
use Rattle.program_uses.specs.Data as spec
use Rattle.program_uses.proofs.data.files_fault.Given as goal

abbrev pub invariant-loop-file : goal.invariant-loop-file
invariant-loop-file l = spec.files_fault l.layout (known l.selects) l.fault (drop l.file-index l.files) ≡ spec.files_fault l.layout (known l.selects) None l.files
