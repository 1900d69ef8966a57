use Rattle.std.proofs.Common.{◌≡◌, [], length}
use Rattle.file_uses.specs.Names.{name_by}
use Rattle.file_uses.specs.Records.{with_records}
use Rattle.file_uses.specs.Table.{IsTable}
use Rattle.file_uses.proofs.table.FileTable.of.Given as goal

abbrev pub invariant-loop-rest : goal.invariant-loop-rest
invariant-loop-rest l =
    IsTable l.table × (with_records (name_by l.known) l.table.files.items l.rest ≡ with_records (name_by l.known) [] l.records)

abbrev pub decreases-loop-rest : goal.decreases-loop-rest
decreases-loop-rest l = length l.rest
