use Rattle.std.proofs.Common.{◌≡◌}
use Rattle.std.specs.Prelude.{map}
use Rattle.cobol_syntax.specs.declared.statement.Form.TheVariants as form
use Rattle.proc_reader.proofs.moves.moves.Given as goal

abbrev pub invariant-loop-to : goal.invariant-loop-to
invariant-loop-to l = l.forms ≡ map (form.Move l.from) l.yielded
