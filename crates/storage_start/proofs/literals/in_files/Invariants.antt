use Rattle.std.proofs.Common.{length}
use Rattle.std.specs.List.{AllByRecursion}
use Rattle.storage_start.specs.Literals.{HaveLiterals}
use Rattle.storage_start.proofs.literals.in_files.Given as goal

abbrev pub invariant-loop-rest : goal.invariant-loop-rest
invariant-loop-rest l = record {
  all : AllByRecursion HaveLiterals l.fn.files → AllByRecursion HaveLiterals l.rest;
  literals : AllByRecursion HaveLiterals l.rest → AllByRecursion HaveLiterals l.fn.files;
}

abbrev pub decreases-loop-rest : goal.decreases-loop-rest
decreases-loop-rest l = length l.rest
