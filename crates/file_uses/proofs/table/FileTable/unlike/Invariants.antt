use Rattle.std.proofs.Common.{◌≡◌, length}
use Rattle.name_tables.specs.Names.{named, no_names}
use Rattle.file_uses.specs.Names.{with_names}
use Rattle.file_uses.specs.Records.{unlike}
use Rattle.file_uses.proofs.table.FileTable.unlike.Given as goal

abbrev pub invariant-loop-rest : goal.invariant-loop-rest
invariant-loop-rest l =
    with_names (named l.names) (unlike l.self.files.items l.rest) ≡ with_names no_names (unlike l.self.files.items l.records)

abbrev pub decreases-loop-rest : goal.decreases-loop-rest
decreases-loop-rest l = length l.rest
