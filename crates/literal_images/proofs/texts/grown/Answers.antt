use Rattle.std.proofs.Common.{◌∙◌}
use Rattle.literal_images.proofs.Kept.{image_end, image_next, behind_next}
use Rattle.literal_images.proofs.texts.grown.Goals as goal

pub loop-years-preserved : goal.loop-years-preserved
loop-years-preserved c = (
  image_next c.args.span c.loop-years.at _ c.gap_before-gap.result c.in_ok-at.at _ c.loop-years.years.now c.loop-years.rest.now
      c.front.result.now c.year_behind.result.now c.rest_behind-rest.result.now c.loop-years.text c.append.new.self c.add_grown.new.text _
      c.in-len1-up.len_at_least c.gap_before-gap.ensures c.front.ensures c.in_ok-append.ensures.ok c.year_behind.ensures
      c.in_ok-add_grown.ensures c.rest_behind-rest.ensures c.in_ok-at.ensures c.loop-years.invariant.0,
  behind_next c.loop-years.at _ c.gap_before-gap.result c.in_ok-at.at _ _ c.loop-years.rest.now c.rest_behind-rest.result.now
      c.gap_before-gap.ensures c.rest_behind-rest.ensures c.in_ok-at.ensures c.loop-years.invariant.1,
)

pub returns : goal.returns
returns c =
    c.in_ok-append-2.ensures.ok
    ∙ image_end c.args.span c.loop-years.at _ c.loop-years.years.now c.loop-years.text c.loop-years.rest.now _
    c.in_default.len_below c.loop-years.invariant.1 c.loop-years.invariant.0
