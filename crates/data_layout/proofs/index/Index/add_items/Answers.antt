use Rattle.std.proofs.Common.{◌∙◌, ap, arith, length}
use Rattle.data_layout.specs.Index as spec
use Rattle.data_layout.proofs.InIndex.{items-more}
use Rattle.data_layout.proofs.index.Index.add_items.Goals as goal

pub loop-item-preserved : goal.loop-item-preserved
loop-item-preserved c =
    let splits = c.in-Some.ensures.some in (
      items-more (spec.held c.loop-item.self) (spec.held c.add_named.new.self) c.loop-item.number c.loop-item.rest.now c.in-Some.more.now c.in-Some.item.now splits c.in_ok-add_named.ensures ∙ c.loop-item.invariant.0,
      omega (arith, ap length splits, c.loop-item.invariant.1),
    )
