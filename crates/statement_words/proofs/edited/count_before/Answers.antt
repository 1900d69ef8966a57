use Rattle.std.proofs.Common.{rules}
use Rattle.std.proofs.lemmas.List.Sorted.{IsPartitionPoint-from_clause}
use Rattle.statement_words.specs.Edited.{comes_before}
use Rattle.statement_words.proofs.Search.{parted}
use Rattle.statement_words.proofs.edited.count_before.Goals as goal

pub returns-clause-point : goal.returns-clause-point
returns-clause-point c =
    IsPartitionPoint-from_clause (comes_before c.args.word) c.args.edits.now c.partition_point.result c.partition_point.ensures.partitioned
    (parted c.args.edits.now c.args.word c.requires) (λ a r q k. search rules)
