use Rattle.std.proofs.Common.{◌≡◌, ◌++◌, length, map}
use Rattle.written_names.specs.Clashes.{under}
use Rattle.written_names.proofs.conversion.add_texts.Given as goal

abbrev pub invariant-loop-rest : goal.invariant-loop-rest
invariant-loop-rest l =
    l.names ++ map (under l.out) l.rest ≡ l.fn.names ++ map (under l.out) l.texts

abbrev pub decreases-loop-rest : goal.decreases-loop-rest
decreases-loop-rest l = length l.rest
