use Rattle.std.proofs.Common.{◌∙◌, arith}
use Rattle.area_limits.specs.Extents.{area_extent}
use Rattle.area_limits.proofs.Steps.{front, lengths_step, full_step}
use Rattle.area_limits.proofs.full.add_own_areas.Goals as goal

pub loop-rest-preserved : goal.loop-rest-preserved
loop-rest-preserved c =
    let are = front c.loop-rest.rest.now c.area-item.result (omega (arith, c.in-len1-up.len_at_least)) c.area-item.is in (
      lengths_step (area_extent c.args.index.now c.args.words.now c.args.items.now) c.loop-rest.rest.now _ c.area-item.result c.loop-rest.sum c.in_ok-sum.sum are c.in_ok-sum.ensures.sum ∙ c.loop-rest.invariant.0,
      full_step (area_extent c.args.index.now c.args.words.now c.args.items.now) c.loop-rest.rest.now _ c.area-item.result c.loop-rest.sum c.in_ok-sum.sum c.loop-rest.limits c.add_area.new.limits are c.in_ok-sum.ensures.sum c.in_ok-sum.ensures.limits ∙ c.loop-rest.invariant.1,
    )
