use Rattle.std.proofs.Common.{ℕ, ◌+◌, sym, subst}
use Rattle.file_convert.specs.Cuts.{pieces}
use Rattle.plan_images.specs.Edges.{IsEdge}
use Rattle.plan_images.proofs.Parting.{edge, no_edge}
use Rattle.plan_images.proofs.table.Table.edge_after.Goals as goal

pub returns-in-Some-clause-none : goal.returns-in-Some-clause-none
returns-in-Some-clause-none c =
    let begun = c.begun_before-count.ensures in
    no_edge c.args.self.now.cuts c.begun_before-count.result c.args.offset c.in-Some.field-0 c.requires.sound.ordered (begun.within, begun.before, begun.after) c.in-Some.ensures.found.0 c.in-Some.ensures.found.1

pub returns-in-None-clause-edge : goal.returns-in-None-clause-edge
returns-in-None-clause-edge c =
    let begun = c.begun_before-count.ensures in
    subst (λ (n : ℕ). IsEdge (pieces c.args.self.now.cuts) c.args.offset (c.args.offset + n)) (sym c.sum_of-sum.ensures.sum)
    (edge c.args.self.now.cuts c.begun_before-count.result c.args.offset c.requires.sound.ordered (begun.within, begun.before, begun.after) c.requires.within c.in-None.ensures.none)
