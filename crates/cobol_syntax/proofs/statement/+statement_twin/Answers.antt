use Rattle.std.proofs.Common.{rules}
use Rattle.cobol_syntax.specs.declared.statement.Statement.{the_lemmas}
use Rattle.cobol_syntax.proofs.Chains.{tied_last}
use Rattle.cobol_syntax.proofs.statement.+statement_twin.Goals as goal

pub twin_statements-loop-one-preserved : goal.twin_statements-loop-one-preserved
twin_statements-loop-one-preserved t c = (search (rules, the_lemmas), search (rules, tied_last))
