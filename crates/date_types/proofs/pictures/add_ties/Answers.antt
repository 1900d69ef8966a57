use Rattle.date_types.specs.Pictures as spec
use Rattle.date_types.proofs.Ties.{one_more}
use Rattle.date_types.proofs.pictures.add_ties.Goals as goal

pub loop-one-preserved : goal.loop-one-preserved
loop-one-preserved c =
    one_more c.loop-one.rules c.add_tie.new.rules _ (spec.held c.loop-one.longest) (spec.held c.keep.new.self) c.of.result c.in-Some.one c.in-Some.more.now c.loop-one.rest.now
    c.in-Some.ensures.some c.of.ensures c.in_ok-add_tie.ensures c.in_ok-keep.ensures c.loop-one.invariant
