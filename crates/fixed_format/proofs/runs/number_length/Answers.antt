use Rattle.fixed_format.proofs.LoopLaws.{number_at}
use Rattle.fixed_format.proofs.runs.number_length.Goals as goal

pub returns-clause-value : goal.returns-clause-value
returns-clause-value c = number_at c.args.rest.now c.digits_length-whole.result c.fraction_length.result c.digits_length-whole.ensures.value c.fraction_length.ensures.value
