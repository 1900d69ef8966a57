use Rattle.std.proofs.Common.{subst, sym, Option}
use Rattle.std.specs.Prelude.{IfSome}
use Rattle.date_views.specs.Sides.{side_of}
use Rattle.statement_rules.specs.Names.{operand_side}
use Rattle.mode_links.specs.declared.bridges.Bridge.{Bridge}
use Rattle.mode_links.specs.Bridges.{AreStanding}
use Rattle.mode_links.proofs.Standing.{bridge_stands}
use Rattle.mode_links.proofs.bridges.bridge_of.Goals as goal

pub returns-clause-years : goal.returns-clause-years
returns-clause-years c =
    subst (λ (b : Option Bridge). IfSome b (AreStanding c.args.labelling.now)) (sym c.in_ok-bridge.ensures)
    (bridge_stands c.args.labelling.now (operand_side c.args.layout.now c.args.from.now) (side_of c.args.layout.now c.args.to.now) c.args.to.now.subs)
