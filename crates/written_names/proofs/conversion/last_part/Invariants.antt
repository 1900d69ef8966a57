use Rattle.std.proofs.Common.{◌≡◌, length}
use Rattle.written_names.specs.Conversions.{part_behind}
use Rattle.written_names.proofs.conversion.last_part.Given as goal

abbrev pub invariant-loop-rest : goal.invariant-loop-rest
invariant-loop-rest l = part_behind l.part l.rest ≡ part_behind l.name l.name

abbrev pub decreases-loop-rest : goal.decreases-loop-rest
decreases-loop-rest l = length l.rest
