use Rattle.std.proofs.Common.{◌≡◌, ◌++◌, length, map}
use Rattle.std.specs.List.{AllByRecursion}
use Rattle.layout_reading.specs.Values.{values_in_files}
use Rattle.storage_start.specs.Literals.{HaveLiterals, IsKept, value_of}
use Rattle.storage_start.proofs.values.add_files.Given as goal

abbrev pub invariant-loop-rest : goal.invariant-loop-rest
invariant-loop-rest l = record {
  values : map value_of l.values.items ++ values_in_files l.rest ≡ map value_of l.initial.values.items ++ values_in_files l.fn.files;
  kept : AllByRecursion IsKept l.values.items;
  literals : AllByRecursion HaveLiterals l.rest;
}

abbrev pub decreases-loop-rest : goal.decreases-loop-rest
decreases-loop-rest l = length l.rest
