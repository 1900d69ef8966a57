use Rattle.expand_rewrite.proofs.tests.labelled.Goals as goal

pub planned-requires-clause-clean : goal.planned-requires-clause-clean
planned-requires-clause-clean c = c.clean.ensures.0 c.if-clean.true
