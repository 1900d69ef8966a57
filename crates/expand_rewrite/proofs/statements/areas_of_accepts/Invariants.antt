use Rattle.std.proofs.Common.{◌≡◌, ◌++◌, length}
use Rattle.std.specs.List.{filter}
use Rattle.expand_rewrite.specs.Statements as spec
use Rattle.expand_rewrite.proofs.statements.areas_of_accepts.Given as goal

abbrev pub invariant-loop-rest : goal.invariant-loop-rest
invariant-loop-rest l = l.kept ++ filter spec.is_of_accept l.rest ≡ filter spec.is_of_accept l.areas

abbrev pub decreases-loop-rest : goal.decreases-loop-rest
decreases-loop-rest l = length l.rest
