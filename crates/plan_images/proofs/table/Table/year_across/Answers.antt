use Rattle.std.proofs.Common.{arith}
use Rattle.plan_images.proofs.CutPlaces.{only_last, if_none}
use Rattle.plan_images.proofs.table.Table.year_across.Goals as goal

pub returns-clause-none : goal.returns-clause-none
returns-clause-none c =
    let begun = c.begun_before-count.ensures in
    let cuts = c.args.self.now.cuts in
    let o = c.args.offset in
    if_none c.cut_over.result (λ ended cut there across.
    only_last 0 cuts.length o o c.begun_before-count.result cuts.list c.requires.ordered.2 (begun.within, begun.before, begun.after) (omega arith) ended cut there across.0 across.1) c.cut_over.ensures.none
