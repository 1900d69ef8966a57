use Rattle.std.proofs.Common.{◌≡◌, length}
use Rattle.name_tables.specs.Names.{named}
use Rattle.written_names.specs.Clashes.{names_in, with_all}
use Rattle.written_names.proofs.clash.add_names.Given as goal

abbrev pub invariant-loop-rest : goal.invariant-loop-rest
invariant-loop-rest l = with_all (named l.names) (names_in l.folder l.rest) ≡ with_all (named l.fn.names) (names_in l.folder l.more)

abbrev pub decreases-loop-rest : goal.decreases-loop-rest
decreases-loop-rest l = length l.rest
