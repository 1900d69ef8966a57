use Rattle.std.proofs.Common.{sym, ◌∙◌}
use Rattle.std.proofs.lemmas.Bool.{ne_eqb}
use Rattle.number_bytes.proofs.EditLaws.{has_dash-other}
use Rattle.number_bytes.proofs.editing.is_minus_run.Goals as goal

pub returns-else-run-eq45 : goal.returns-else-run-eq45
returns-else-run-eq45 c =
    ne_eqb c.args.run.symbol 45 c.if-run-eq45.false ∙ sym (has_dash-other c.args.run.count c.args.run.symbol c.if-run-eq45.false)
