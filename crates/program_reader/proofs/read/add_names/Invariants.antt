use Rattle.std.proofs.Common.{◌≡◌, ◌++◌, length}
use Rattle.program_reader.specs.Whole.{names_of}
use Rattle.program_reader.proofs.read.add_names.Given as goal

abbrev pub invariant-loop-entries : goal.invariant-loop-entries
invariant-loop-entries l = l.names ++ names_of l.entries ≡ l.initial.names ++ names_of l.initial.entries

abbrev pub decreases-loop-entries : goal.decreases-loop-entries
decreases-loop-entries l = length l.entries
