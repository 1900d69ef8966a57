use Rattle.std.proofs.Common.{length}
use Rattle.std.specs.List.{AllByRecursion}
use Rattle.storage_start.specs.Receivable.{IsReceivable}
use Rattle.storage_start.proofs.receiving.are_receivable.Given as goal

abbrev pub invariant-loop-rest : goal.invariant-loop-rest
invariant-loop-rest l = record {
  all : AllByRecursion IsReceivable l.layout.items → AllByRecursion IsReceivable l.rest;
  receive : AllByRecursion IsReceivable l.rest → AllByRecursion IsReceivable l.layout.items;
}

abbrev pub decreases-loop-rest : goal.decreases-loop-rest
decreases-loop-rest l = length l.rest
