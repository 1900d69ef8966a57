use Rattle.std.proofs.Common.{◌≡◌, length}
use Rattle.name_tables.specs.Names.{named, no_names}
use Rattle.file_uses.specs.Names.{known_by, with_names, unknown_in}
use Rattle.file_uses.proofs.selected.add_unknown.Given as goal

abbrev pub invariant-loop-rest : goal.invariant-loop-rest
invariant-loop-rest l =
    with_names (named l.faults) (unknown_in (known_by l.known) (named l.own) l.rest)
    ≡ with_names (named l.initial.faults) (unknown_in (known_by l.known) no_names l.selects)

abbrev pub decreases-loop-rest : goal.decreases-loop-rest
decreases-loop-rest l = length l.rest
