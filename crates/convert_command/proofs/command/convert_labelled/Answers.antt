use Rattle.convert_command.proofs.command.convert_labelled.Goals as goal

pub convert_clean-requires-clause-clean : goal.convert_clean-requires-clause-clean
convert_clean-requires-clause-clean g c = c.clean.ensures.0 c.if-clean.true
