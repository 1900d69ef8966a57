use Rattle.std.proofs.Common.{◌≡◌, length}
use Rattle.std.specs.List.{find}
use Rattle.statement_rules.specs.Statements.{origin_of}
use Rattle.area_limits.specs.Extents as spec
use Rattle.area_limits.proofs.extents.procedure_origin.Given as goal

abbrev pub invariant-loop-rest : goal.invariant-loop-rest
invariant-loop-rest l = origin_of (find spec.is_procedure l.rest) ≡ origin_of (find spec.is_procedure l.words)

abbrev pub decreases-loop-rest : goal.decreases-loop-rest
decreases-loop-rest l = length l.rest
