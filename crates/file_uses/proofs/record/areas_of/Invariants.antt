use Rattle.std.proofs.Common.{◌≡◌, length}
use Rattle.name_tables.specs.Table.{held}
use Rattle.file_uses.specs.Records.{with_areas, areas_in}
use Rattle.file_uses.proofs.record.areas_of.Given as goal

abbrev pub invariant-loop-rest : goal.invariant-loop-rest
invariant-loop-rest l = with_areas (held l.table) l.rest ≡ areas_in l.areas

abbrev pub decreases-loop-rest : goal.decreases-loop-rest
decreases-loop-rest l = length l.rest
