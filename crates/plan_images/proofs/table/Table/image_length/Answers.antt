use Rattle.std.proofs.Common.{ℕ, ◌+◌, ap, ◌∙◌}
use Rattle.plan_images.proofs.Grown.{length_after}
use Rattle.plan_images.proofs.table.Table.image_length.Goals as goal

pub returns : goal.returns
returns c = ap (λ (n : ℕ). c.args.self.now.cuts.length + n) c.sum_of-sum.ensures.sum ∙ length_after c.args.self.now.cuts c.len-all.result c.requires.ordered c.len-all.ensures
