use Rattle.std.proofs.Common.{◌≡◌, length}
use Rattle.file_uses.specs.Names.{shown, names_in, with_files}
use Rattle.file_uses.proofs.known.names_of.Given as goal

abbrev pub invariant-loop-rest : goal.invariant-loop-rest
invariant-loop-rest l = with_files (shown l.names) l.rest ≡ names_in l.files

abbrev pub decreases-loop-rest : goal.decreases-loop-rest
decreases-loop-rest l = length l.rest
