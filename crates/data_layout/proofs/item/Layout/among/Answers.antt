use Rattle.std.proofs.Common.{◌∙◌}
use Rattle.data_layout.proofs.InIndex.{thing-more, thing-last}
use Rattle.data_layout.proofs.item.Layout.among.Goals as goal

pub loop-thing-preserved : goal.loop-thing-preserved
loop-thing-preserved c =
    thing-more c.args.self.now c.args.qualifiers.now c.loop-thing.found c.with-found.result c.qualified-one.result c.loop-thing.rest.now c.in-Some.more.now c.in-Some.thing c.in-Some.ensures.some c.with-found.ensures c.qualified-one.ensures
    ∙ c.loop-thing.invariant

pub returns : goal.returns
returns c = thing-last c.args.self.now c.args.qualifiers.now c.loop-thing.found c.loop-thing.rest.now c.in_default.ensures.none ∙ c.loop-thing.invariant
