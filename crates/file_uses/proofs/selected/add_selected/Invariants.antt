use Rattle.std.proofs.Common.{◌≡◌, length, map}
use Rattle.name_tables.specs.Names.{named}
use Rattle.file_uses.specs.Names.{with_names, external_of}
use Rattle.file_uses.proofs.selected.add_selected.Given as goal

abbrev pub invariant-loop-rest : goal.invariant-loop-rest
invariant-loop-rest l =
    with_names (named l.names) (map external_of l.rest) ≡ with_names (named l.initial.names) (map external_of l.selects)

abbrev pub decreases-loop-rest : goal.decreases-loop-rest
decreases-loop-rest l = length l.rest
