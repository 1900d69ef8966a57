use Rattle.std.proofs.Common.{ℕ, ◌<◌, ◌≤◌, List, ltb, length, get_or, sym, subst, arith, rules}
use Rattle.std.specs.List.Sorted.{IsNonDecreasingBy}
use Rattle.std.proofs.lemmas.Bool.{ltb-true, ltb-false}
use Rattle.std.proofs.lemmas.List.Sorted.{IsPartitionPoint-from_clause, IsPartitionedBy-ltb}
use Rattle.file_convert.specs.declared.cut.Cut.{Cut}
use Rattle.plan_images.proofs.CutPlaces.{rising}
use Rattle.plan_images.proofs.table.Table.begun_before.Goals as goal

pub returns-clause-before : goal.returns-clause-before
returns-clause-before c =
    let at = c.args.offset in
    let list = c.items.result.now in
    let rises = subst (λ (l : List Cut). IsNonDecreasingBy (λ (x : Cut). x.offset) l) (sym c.items.ensures) (rising 0 c.args.self.now.cuts.length c.args.self.now.cuts.list c.requires.ordered.2) in
    let parted = IsPartitionedBy-ltb (λ (x : Cut). x.offset) list at rises in
    let point = IsPartitionPoint-from_clause (λ (x : Cut). ltb x.offset at) list c.partition_point.result c.partition_point.ensures.partitioned parted (λ a r q k. search rules) in
    subst (λ (l : List Cut). (i : ℕ) (d : Cut) → i < c.partition_point.result → (get_or l i d).offset < at) c.items.ensures
    (λ i d l. ltb-true (get_or list i d).offset at (point.0 i d (omega arith) l))

pub returns-clause-after : goal.returns-clause-after
returns-clause-after c =
    let at = c.args.offset in
    let list = c.items.result.now in
    let rises = subst (λ (l : List Cut). IsNonDecreasingBy (λ (x : Cut). x.offset) l) (sym c.items.ensures) (rising 0 c.args.self.now.cuts.length c.args.self.now.cuts.list c.requires.ordered.2) in
    let parted = IsPartitionedBy-ltb (λ (x : Cut). x.offset) list at rises in
    let point = IsPartitionPoint-from_clause (λ (x : Cut). ltb x.offset at) list c.partition_point.result c.partition_point.ensures.partitioned parted (λ a r q k. search rules) in
    subst (λ (l : List Cut). (i : ℕ) (d : Cut) → c.partition_point.result ≤ i → i < length l → at ≤ (get_or l i d).offset) c.items.ensures
    (λ i d l m. ltb-false (get_or list i d).offset at (point.1 i d l m))
