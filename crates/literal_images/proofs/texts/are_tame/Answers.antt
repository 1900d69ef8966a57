use Rattle.std.proofs.Common.{rules, ◌≡◌, ◌∙◌, sym, true, false}
use Rattle.literal_images.proofs.Kept.{tame_end, tame_next, tame_not}
use Rattle.literal_images.proofs.texts.are_tame.Goals as goal

pub loop-years-preserved : goal.loop-years-preserved
loop-years-preserved c =
    let is : c.in_ok-is_tame.field-0 ≡ true = search rules in
    tame_next c.args.span c.loop-years.at _ c.gap_before-gap.result c.in_ok-at.at _ c.loop-years.years.now c.loop-years.rest.now
    c.year_behind.result.now c.rest_behind-rest.result.now _ c.in-len1-up.len_at_least c.gap_before-gap.ensures c.year_behind.ensures
    (sym c.in_ok-is_tame.ensures ∙ is) c.rest_behind-rest.ensures c.in_ok-at.ensures c.loop-years.invariant

pub returns-then-not-branch : goal.returns-then-not-branch
returns-then-not-branch c =
    let is : c.in_ok-is_tame.field-0 ≡ false = search rules in
    tame_not c.args.span c.loop-years.at _ c.gap_before-gap.result _ c.loop-years.years.now c.loop-years.rest.now c.year_behind.result.now _
    c.in-len1-up.len_at_least c.gap_before-gap.ensures c.year_behind.ensures (sym c.in_ok-is_tame.ensures ∙ is) c.loop-years.invariant

pub returns : goal.returns
returns c = tame_end c.args.span c.loop-years.at _ c.loop-years.years.now c.loop-years.rest.now _ c.in_default.len_below c.loop-years.invariant
