use Rattle.std.proofs.Common.{◌≡◌, length}
use Rattle.name_tables.specs.Table.{held}
use Rattle.data_conversion.specs.Numbers.{number_of, numbers_from}
use Rattle.data_conversion.proofs.cuts.numbers_of.Given as goal

abbrev pub invariant-loop-rest : goal.invariant-loop-rest
invariant-loop-rest l = numbers_from (held l.numbers) l.number l.rest ≡ number_of l.files

abbrev pub decreases-loop-rest : goal.decreases-loop-rest
decreases-loop-rest l = length l.rest
