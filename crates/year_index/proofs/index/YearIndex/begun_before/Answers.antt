use Rattle.std.proofs.Common.{◌≡◌, List, sym, subst, rules}
use Rattle.std.specs.List.Sorted.{IsPartitionedBy}
use Rattle.std.proofs.lemmas.List.Sorted.{IsPartitionPoint-from_clause}
use Rattle.window_modes.specs.declared.modes.YearMode.{YearMode}
use Rattle.year_index.specs.Years.{begins_before}
use Rattle.year_index.proofs.Order.{parted_begun}
use Rattle.year_index.proofs.Search.{IsPoint}
use Rattle.year_index.proofs.index.YearIndex.begun_before.Goals as goal

pub returns-clause-point : goal.returns-clause-point
returns-clause-point c =
    let passes = begins_before c.args.area.0 c.args.offset in
    let list = c.items.result.now in
    let same : list ≡ c.args.self.now = cc in
    let parts : IsPartitionedBy passes list = subst (λ (l : List YearMode). IsPartitionedBy passes l) (sym c.items.ensures) (parted_begun c.self.inside.modes c.self.invariant.ordered c.args.area.0 c.args.offset) in
    let point = IsPartitionPoint-from_clause passes list c.partition_point.result c.partition_point.ensures.partitioned parts (λ a r q k. search rules) in
    subst (λ (l : List YearMode). IsPoint passes l c.partition_point.result) same point
