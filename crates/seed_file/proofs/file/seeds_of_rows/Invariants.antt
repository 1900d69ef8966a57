use Rattle.std.proofs.Common.{length}
use Rattle.seed_file.proofs.Rest.{Goes}
use Rattle.seed_file.proofs.file.seeds_of_rows.Given as goal

abbrev pub invariant-loop-first : goal.invariant-loop-first
invariant-loop-first l = Goes l.portfolio l.records l.found l.rest

abbrev pub decreases-loop-first : goal.decreases-loop-first
decreases-loop-first l = length l.rest
