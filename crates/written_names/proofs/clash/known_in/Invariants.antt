use Rattle.std.proofs.Common.{◌≡◌, length}
use Rattle.name_tables.specs.Names.{named, no_names}
use Rattle.written_names.specs.Clashes.{found_in}
use Rattle.written_names.proofs.clash.known_in.Given as goal

abbrev pub invariant-loop-rest : goal.invariant-loop-rest
invariant-loop-rest l = found_in (named l.known) (named l.found) l.rest ≡ found_in (named l.fn.known) no_names l.written

abbrev pub decreases-loop-rest : goal.decreases-loop-rest
decreases-loop-rest l = length l.rest
