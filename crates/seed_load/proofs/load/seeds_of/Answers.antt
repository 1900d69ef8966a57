use Rattle.seed_load.proofs.load.seeds_of.Goals as goal

pub returns-in-Err-clause-refusal : goal.returns-in-Err-clause-refusal
returns-in-Err-clause-refusal c = c.unread.ensures.cause _ c.args.portfolio.now c.in-Err.ensures.fault
