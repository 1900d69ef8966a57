-- The phrases of statements.
use Rattle.std.specs.Prelude.{Option, Some, None}
use Rattle.cobol_syntax.specs.declared.statement.Branch.{Branch, fold-Branch}
use Rattle.program_meaning.specs.Tree as tree
use Rattle.tree_reading.specs.Reading.{form_layer, branch_layer, statement_layer}

abbrev pub read_branch : Branch → tree.Phrase
read_branch = fold-Branch tree.Form tree.Phrase tree.Statement form_layer branch_layer statement_layer

abbrev pub branch_if : Option Branch → tree.Phrase
branch_if None = tree.Absent
branch_if (Some b) = read_branch b
