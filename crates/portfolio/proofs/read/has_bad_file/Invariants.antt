use Rattle.std.proofs.Common.{◌≡◌, length, map}
use Rattle.std.specs.List.{list_any}
use Rattle.portfolio.specs.Faults.{is_bad_name, file_of}
use Rattle.portfolio.proofs.read.has_bad_file.Given as goal

abbrev pub invariant-loop-rest : goal.invariant-loop-rest
invariant-loop-rest l = list_any is_bad_name (map file_of l.rest) ≡ list_any is_bad_name (map file_of l.files)

abbrev pub decreases-loop-rest : goal.decreases-loop-rest
decreases-loop-rest l = length l.rest
