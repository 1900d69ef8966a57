use Rattle.std.proofs.Common.{◌≡◌, length}
use Rattle.data_layout.specs.Names.{named}
use Rattle.data_layout.specs.Faults as spec
use Rattle.data_layout.proofs.check.check_files.Given as goal

abbrev pub invariant-loop-file : goal.invariant-loop-file
invariant-loop-file l =
    (spec.faults_of_files l.words (named l.names) l.rest ≡ spec.faults_of_files l.words (named l.initial.names) l.files)
    × (spec.names_after_files (named l.names) l.rest ≡ spec.names_after_files (named l.initial.names) l.files)

abbrev pub decreases-loop-file : goal.decreases-loop-file
decreases-loop-file l = length l.rest
