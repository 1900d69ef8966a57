use Rattle.label_spread.proofs.Only.{only_list}
use Rattle.label_spread.proofs.Least.{AreDerivable-alike, IsLeast-alike}
use Rattle.label_spread.proofs.closure.spread.Goals as goal

pub returns-clause-derivable : goal.returns-clause-derivable
returns-clause-derivable c =
    AreDerivable-alike c.args.seeds.now c.args.rules.now _ _ c.requires c.in_ok-facts.ensures.derivation c.in_ok-facts.ensures.closed c.in_ok-labelling.ensures.same

pub returns-clause-least : goal.returns-clause-least
returns-clause-least c =
    IsLeast-alike c.args.seeds.now c.args.rules.now _ _ c.requires c.in_ok-facts.ensures.derivation c.in_ok-facts.ensures.closed c.in_ok-labelling.ensures.same

pub returns-clause-stretched : goal.returns-clause-stretched
returns-clause-stretched c = only_list _
