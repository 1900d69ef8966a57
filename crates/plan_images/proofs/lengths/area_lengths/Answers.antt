use Rattle.std.proofs.Common.{List, ◌∙◌, ap, arith}
use Rattle.std.proofs.lemmas.List.{take_all}
use Rattle.data_layout.specs.declared.item.Layout.{Layout}
use Rattle.plan_images.specs.Lengths.{lengths_in}
use Rattle.plan_images.proofs.Numbered.{lengths}
use Rattle.plan_images.proofs.lengths.area_lengths.Goals as goal

pub returns-clause-numbered : goal.returns-clause-numbered
returns-clause-numbered c =
    lengths c.args.layouts.now c.loop-layout.lengths (c.loop-layout.invariant ∙ ap (λ (ls : List Layout). lengths_in ls) (take_all c.loop-layout.layout-index c.args.layouts.now (omega arith)))
