use Rattle.mode_links.proofs.Bears.{bears_is}
use Rattle.statement_limits.proofs.roles.bears.Goals as goal

pub returns : goal.returns
returns c = bears_is c.args.place c.args.label c.args.labelling.now c.has.result c.has.ensures.0 c.has.ensures.1
