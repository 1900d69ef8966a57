use Rattle.std.proofs.Common.{ℕ, ◌+◌, ap, ◌∙◌}
use Rattle.plan_images.proofs.Grown.{offset_after}
use Rattle.plan_images.proofs.table.Table.offset_after.Goals as goal

pub returns : goal.returns
returns c =
    let begun = c.begun_before-count.ensures in
    ap (λ (n : ℕ). c.args.offset + n) c.sum_of-sum.ensures.sum
    ∙ offset_after c.args.self.now.cuts c.begun_before-count.result c.args.offset c.requires.sound.ordered (begun.within, begun.before, begun.after) c.requires.within
