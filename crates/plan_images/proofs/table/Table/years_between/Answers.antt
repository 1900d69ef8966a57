use Rattle.std.proofs.Common.{◌∙◌}
use Rattle.plan_images.proofs.CutPlaces.{between, fewer}
use Rattle.plan_images.proofs.table.Table.years_between.Goals as goal

pub part-requires-clause-order : goal.part-requires-clause-order
part-requires-clause-order c =
    let first = c.begun_before-first.ensures in
    let last = c.begun_before-last.ensures in
    fewer c.args.self.now.cuts.list c.begun_before-first.result c.begun_before-last.result c.args.start c.args.end (first.within, first.before, first.after) (last.within, last.before, last.after) c.requires.order

pub returns : goal.returns
returns c =
    let first = c.begun_before-first.ensures in
    let last = c.begun_before-last.ensures in
    c.part.ensures
    ∙ between c.args.self.now.cuts.list c.begun_before-first.result c.begun_before-last.result c.args.start c.args.end (first.within, first.before, first.after) (last.within, last.before, last.after) c.requires.order
