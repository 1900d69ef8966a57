use Rattle.std.proofs.Common.{◌≡◌, length}
use Rattle.name_tables.specs.Names.{named}
use Rattle.file_uses.specs.Names.{with_names, unselected_in}
use Rattle.file_uses.proofs.selected.add_unselected.Given as goal

abbrev pub invariant-loop-rest : goal.invariant-loop-rest
invariant-loop-rest l =
    with_names (named l.faults) (unselected_in (named l.selected) l.rest)
    ≡ with_names (named l.initial.faults) (unselected_in (named l.selected) l.files)

abbrev pub decreases-loop-rest : goal.decreases-loop-rest
decreases-loop-rest l = length l.rest
