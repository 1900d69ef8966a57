use Rattle.conflict_chain.proofs.Existence.{have_chains}
use Rattle.conflict_chain.proofs.reasons.each_fact_has_a_chain.Goals as goal

pub returns : goal.returns
returns c = have_chains c.args.seeds.now c.args.rules.now c.args.labelling.now c.requires.fit c.requires.labelled
