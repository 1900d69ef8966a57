use Rattle.std.proofs.Common.{◌≡◌, ◌++◌, length}
use Rattle.name_tables.specs.Table.{held}
use Rattle.file_uses.specs.Records.{records_in}
use Rattle.file_uses.proofs.record.add_records.Given as goal

abbrev pub invariant-loop-rest : goal.invariant-loop-rest
invariant-loop-rest l =
    l.records ++ records_in l.program (held l.areas) l.rest ≡ l.initial.records ++ records_in l.program (held l.areas) l.selects

abbrev pub decreases-loop-rest : goal.decreases-loop-rest
decreases-loop-rest l = length l.rest
