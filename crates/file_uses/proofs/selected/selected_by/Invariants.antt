use Rattle.std.proofs.Common.{◌≡◌, length}
use Rattle.name_tables.specs.Names.{named}
use Rattle.file_uses.specs.Names.{with_names, externals, selected_by}
use Rattle.file_uses.proofs.selected.selected_by.Given as goal

abbrev pub invariant-loop-program : goal.invariant-loop-program
invariant-loop-program l = with_names (named l.names) (externals l.rest) ≡ selected_by l.programs

abbrev pub decreases-loop-program : goal.decreases-loop-program
decreases-loop-program l = length l.rest
