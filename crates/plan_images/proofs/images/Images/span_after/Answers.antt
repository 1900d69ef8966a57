use Rattle.std.proofs.Common.{◌+◌, ◌-◌, subst, arith}
use Rattle.file_convert.specs.declared.cut.Cuts.{Cuts}
use Rattle.file_convert.specs.Cuts.{pieces}
use Rattle.plan_images.specs.Edges.{IsMoved, IsBetween}
use Rattle.plan_images.proofs.Parting.{grown_up, moved, no_begin, no_end}
use Rattle.plan_images.proofs.images.Images.span_after.Goals as goal

pub overflow_sub-result : goal.overflow_sub-result
overflow_sub-result c =
    let span = c.args.span in
    grown_up (pieces c.table-table.result.now.cuts) span.offset (span.offset + span.length) c.in-Some.first c.in-Some-edge_after.last c.in-Some.ensures.edge c.in-Some-edge_after.ensures.edge (omega arith)

pub returns-in-Some-edge_after-clause-moved : goal.returns-in-Some-edge_after-clause-moved
returns-in-Some-edge_after-clause-moved c =
    let span = c.args.span in
    subst (λ (cuts : Cuts). IsMoved (pieces cuts) span (record { area = span.area; offset = c.in-Some.first; length = c.in-Some-edge_after.last - c.in-Some.first })) c.table-table.ensures.cuts
    (moved (pieces c.table-table.result.now.cuts) span c.in-Some.first c.in-Some-edge_after.last c.in-Some.ensures.edge c.in-Some-edge_after.ensures.edge)

pub returns-in-None-edge_after-clause-none : goal.returns-in-None-edge_after-clause-none
returns-in-None-edge_after-clause-none c =
    subst (λ (cuts : Cuts). IsBetween (pieces cuts) c.args.span → ⊥) c.table-table.ensures.cuts
    (no_end (pieces c.table-table.result.now.cuts) c.args.span c.in-None-edge_after.ensures.none)

pub returns-in-None-clause-none : goal.returns-in-None-clause-none
returns-in-None-clause-none c =
    subst (λ (cuts : Cuts). IsBetween (pieces cuts) c.args.span → ⊥) c.table-table.ensures.cuts
    (no_begin (pieces c.table-table.result.now.cuts) c.args.span c.in-None.ensures.none)
