use Rattle.std.proofs.Common.{◌≡◌, length}
use Rattle.name_tables.specs.Names.{named}
use Rattle.file_uses.specs.Names.{known_by, with_names, unknown_selected}
use Rattle.file_uses.proofs.selected.add_all_unknown.Given as goal

abbrev pub invariant-loop-program : goal.invariant-loop-program
invariant-loop-program l =
    with_names (named l.faults) (unknown_selected (known_by l.known) l.rest)
    ≡ with_names (named l.initial.faults) (unknown_selected (known_by l.known) l.programs)

abbrev pub decreases-loop-program : goal.decreases-loop-program
decreases-loop-program l = length l.rest
