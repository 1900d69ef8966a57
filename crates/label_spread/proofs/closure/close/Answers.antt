use Rattle.std.proofs.Common.{sym}
use Rattle.year_labels.specs.Derivation.{FollowsByOne}
use Rattle.label_spread.proofs.Least.{Taken-none, Taken-more, Taken-all, ended}
use Rattle.label_spread.proofs.closure.close.Goals as goal

pub loop-fact-init : goal.loop-fact-init
loop-fact-init c = Taken-none (FollowsByOne c.args.rules.now) c.args.known.now c.requires.started

pub loop-fact-preserved : goal.loop-fact-preserved
loop-fact-preserved c =
    Taken-more (FollowsByOne c.args.rules.now) _ _ _ c.loop-fact.next c.in-Some.fact (sym c.in-Some.ensures.value) c.loop-fact.invariant c.in_ok-react_all.ensures

pub returns : goal.returns
returns c =
    Taken-all (FollowsByOne c.args.rules.now) _ _ c.loop-fact.next (ended c.loop-fact.known c.loop-fact.next c.at.result c.at.ensures.value c.in_default.not-Some) c.loop-fact.invariant
