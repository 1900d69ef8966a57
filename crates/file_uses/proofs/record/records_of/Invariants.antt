use Rattle.std.proofs.Common.{◌≡◌, ◌++◌, length}
use Rattle.file_uses.specs.Records.{records_from}
use Rattle.file_uses.proofs.record.records_of.Given as goal

abbrev pub invariant-loop-program : goal.invariant-loop-program
invariant-loop-program l = l.records ++ records_from l.number l.rest l.rest_layouts ≡ records_from 0 l.programs l.layouts

abbrev pub decreases-loop-program : goal.decreases-loop-program
decreases-loop-program l = length l.rest
