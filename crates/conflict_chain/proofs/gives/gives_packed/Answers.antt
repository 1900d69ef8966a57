use Rattle.conflict_chain.specs.Named.{named}
use Rattle.conflict_chain.proofs.gives.gives_packed.Goals as goal

pub returns-in-Tens : goal.returns-in-Tens
returns-in-Tens c = rw c.in-Tens.is (c.gives_tens.ensures (named c.args.steps.now c.args.from.now))

pub returns-in-Units : goal.returns-in-Units
returns-in-Units c = rw c.in-Units.is (c.gives_units.ensures (named c.args.steps.now c.args.from.now))
