use Rattle.seed_load.proofs.load.seeds_at.Goals as goal

pub returns-clause-refusal : goal.returns-clause-refusal
returns-clause-refusal g c = c.unloaded.ensures.cause c.args.name.now _ _ c.args.portfolio.now c.in-Err.ensures.cause
