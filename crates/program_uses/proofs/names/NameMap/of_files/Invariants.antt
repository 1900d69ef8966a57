use Rattle.std.proofs.Common.{◌≡◌, drop}
use Rattle.program_uses.specs.Names as spec
use Rattle.program_uses.proofs.names.NameMap.of_files.Given as goal

abbrev pub invariant-loop-file : goal.invariant-loop-file
invariant-loop-file l = spec.with_files (spec.known l.names) (drop l.file-index l.files) ≡ spec.with_files spec.no_names l.files
