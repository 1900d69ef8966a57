use Rattle.std.proofs.Common.{length}
use Rattle.std.specs.List.{AllByRecursion}
use Rattle.storage_start.specs.Literals.{HasLiteral}
use Rattle.storage_start.proofs.literals.in_entries.Given as goal

abbrev pub invariant-loop-rest : goal.invariant-loop-rest
invariant-loop-rest l = record {
  all : AllByRecursion HasLiteral l.fn.entries → AllByRecursion HasLiteral l.rest;
  literals : AllByRecursion HasLiteral l.rest → AllByRecursion HasLiteral l.fn.entries;
}

abbrev pub decreases-loop-rest : goal.decreases-loop-rest
decreases-loop-rest l = length l.rest
