use Rattle.std.proofs.Common.{◌≡◌}
use Rattle.std.specs.Prelude.{map}
use Rattle.cobol_syntax.specs.declared.statement.Form.TheVariants as form
use Rattle.proc_reader.proofs.files.closes.Given as goal

abbrev pub invariant-loop-file : goal.invariant-loop-file
invariant-loop-file l = l.forms ≡ map form.Close l.yielded
