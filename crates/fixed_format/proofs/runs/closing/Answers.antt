use Rattle.std.proofs.Common.{◌∙◌}
use Rattle.fixed_format.proofs.LoopLaws.{closing_halves}
use Rattle.fixed_format.proofs.runs.closing.Goals as goal

pub returns-clause-value : goal.returns-clause-value
returns-clause-value c = c.closing_by_halves.ensures.value ∙ closing_halves c.args.mark c.args.rest.now
