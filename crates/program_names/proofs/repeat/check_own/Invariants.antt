use Rattle.std.proofs.Common.{◌≡◌, length}
use Rattle.name_tables.specs.Names.{named, no_names}
use Rattle.program_names.specs.Repeats.{repeated}
use Rattle.program_names.proofs.repeat.check_own.Given as goal

abbrev pub invariant-loop-rest : goal.invariant-loop-rest
invariant-loop-rest g l =
    repeated g.T.Spelled.spelling g.T.Spelled.place l.words (named l.known) l.rest ≡ repeated g.T.Spelled.spelling g.T.Spelled.place l.words no_names l.items

abbrev pub decreases-loop-rest : goal.decreases-loop-rest
decreases-loop-rest g l = length l.rest
