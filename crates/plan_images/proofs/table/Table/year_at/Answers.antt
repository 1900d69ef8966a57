use Rattle.std.proofs.Common.{◌+◌, arith}
use Rattle.plan_images.proofs.CutPlaces.{only_last, if_none}
use Rattle.plan_images.proofs.table.Table.year_at.Goals as goal

pub returns-clause-none : goal.returns-clause-none
returns-clause-none c =
    let begun = c.begun_before-count.ensures in
    let cuts = c.args.self.now.cuts in
    let o = c.args.offset in
    if_none c.cut_over.result (λ ended cut there covers.
    only_last 0 cuts.length (o + 1) o c.begun_before-count.result cuts.list c.requires.sound.ordered.2 (begun.within, begun.before, begun.after) (omega arith) ended cut there (omega (arith, covers.0)) covers.1) c.cut_over.ensures.none
