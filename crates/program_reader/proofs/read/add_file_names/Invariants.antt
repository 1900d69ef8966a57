use Rattle.std.proofs.Common.{◌≡◌, ◌++◌, length}
use Rattle.program_reader.specs.Whole.{file_names}
use Rattle.program_reader.proofs.read.add_file_names.Given as goal

abbrev pub invariant-loop-files : goal.invariant-loop-files
invariant-loop-files l = l.names ++ file_names l.files ≡ l.initial.names ++ file_names l.initial.files

abbrev pub decreases-loop-files : goal.decreases-loop-files
decreases-loop-files l = length l.files
