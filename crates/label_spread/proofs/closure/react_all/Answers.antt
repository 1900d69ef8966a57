use Rattle.std.proofs.Common.{arith}
use Rattle.year_labels.specs.Derivation.{FollowsByOne}
use Rattle.label_spread.proofs.Growth.{Extends-contains}
use Rattle.label_spread.proofs.Looks.{ReactsAmong-none, ReactsAmong-more, ReactsAmong-all}
use Rattle.label_spread.proofs.closure.react_all.Goals as goal

pub loop-i-init : goal.loop-i-init
loop-i-init c = (ReactsAmong-none c.args.rules.now _ c.args.fact _, c.requires.there)

pub loop-i-preserved : goal.loop-i-preserved
loop-i-preserved c = (
  ReactsAmong-more c.args.rules.now c.in_ok-found.found.items c.args.fact _ _ _ c.loop-i.i c.index-slot.result.now (omega arith) c.index-slot.ensures c.loop-i.invariant.0 c.in_ok-react_by.ensures,
  Extends-contains (FollowsByOne c.args.rules.now) _ _ c.args.fact c.in_ok-react_by.ensures.extends c.loop-i.invariant.1,
)

pub returns : goal.returns
returns c =
    ReactsAmong-all c.args.rules.now c.in_ok-found.found.items c.args.slots.now.keys c.args.fact _ _ c.loop-i.i c.requires.fit c.requires.indexed c.in_ok-found.ensures (omega arith) c.loop-i.invariant.0
