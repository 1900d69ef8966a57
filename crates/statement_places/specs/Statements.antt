-- The statements of a program in the order of its text, those within a statement after it.
use Rattle.std.specs.Prelude.{ℕ, ◌==◌, List, [], ◌∷◌, ◌++◌, map, Option, Some, None, if◌then◌else◌, slice_get}
use Rattle.y2k_base.specs.declared.word.Origin.{Origin}
use Rattle.y2k_base.specs.declared.word.Word.{Word}
use Rattle.cobol_syntax.specs.declared.statement.Statement.{Statement, fold-Statement}
use Rattle.cobol_syntax.specs.declared.statement.Branch.{Branch, fold-Branch}
use Rattle.cobol_syntax.specs.declared.statement.Form.{Form, Form-F, fold-Form}
use Rattle.cobol_syntax.specs.declared.statement.Form.TheOpen as f
use Rattle.cobol_syntax.specs.declared.statement.Form.TheOpen.{Branch-F, Statement-F}
use Rattle.cobol_syntax.specs.declared.program.Sentence.{Sentence}
use Rattle.cobol_syntax.specs.declared.program.Paragraph.{Paragraph}
use Rattle.cobol_syntax.specs.declared.program.Program.{Program}

-- a statement by its number and the position of its first word
pub record Numbered : Type 0 where
  pub number : ℕ
  pub at : ℕ

abbrev pub joined : List (List Numbered) → List Numbered
joined [] = []
joined (one ∷ more) = one ++ joined more

-- the statements of a phrase, if there is one
abbrev pub phrase : Option (List Numbered) → List Numbered
phrase None = []
phrase (Some inner) = inner

-- what stands within a statement
abbrev pub form_layer : Form-F (List Numbered) (List Numbered) (List Numbered) → List Numbered
form_layer (f.Move from to) = []
form_layer (f.Compute to rounded value rest size) = phrase size
form_layer (f.If test body other) = joined body ++ joined other
form_layer f.NextSentence = []
form_layer (f.GoTo name) = []
form_layer f.Stop = []
form_layer f.Nothing = []
form_layer (f.Perform range body control) = joined body
form_layer (f.Open mode file) = []
form_layer (f.Close file) = []
form_layer (f.Read file into end) = phrase end
form_layer (f.Write name from advance) = []
form_layer (f.Accept to from) = []
form_layer (f.Show operands) = []

abbrev pub branch_layer : Branch-F (List Numbered) (List Numbered) (List Numbered) → List Numbered
branch_layer x = joined x.yes ++ joined x.no

abbrev pub statement_layer : Statement-F (List Numbered) (List Numbered) (List Numbered) → List Numbered
statement_layer x = record { number = x.id.number; at = x.at } ∷ x.form

-- a statement and what stands within it
abbrev pub from_statement : Statement → List Numbered
from_statement = fold-Statement (List Numbered) (List Numbered) (List Numbered) form_layer branch_layer statement_layer

abbrev pub within : Form → List Numbered
within = fold-Form (List Numbered) (List Numbered) (List Numbered) form_layer branch_layer statement_layer

abbrev pub of_branch : Branch → List Numbered
of_branch = fold-Branch (List Numbered) (List Numbered) (List Numbered) form_layer branch_layer statement_layer

abbrev pub branch_if : Option Branch → List Numbered
branch_if None = []
branch_if (Some branch) = of_branch branch

abbrev pub of_statements : List Statement → List Numbered
of_statements statements = joined (map from_statement statements)

abbrev pub of_sentences : List Sentence → List Numbered
of_sentences [] = []
of_sentences (sentence ∷ sentences) = of_statements sentence.statements ++ of_sentences sentences

-- all statements of the procedure division
abbrev pub of_paragraphs : List Paragraph → List Numbered
of_paragraphs [] = []
of_paragraphs (one ∷ others) = of_sentences one.sentences ++ of_paragraphs others

-- where the first statement with a number begins
abbrev pub place_in : ℕ → List Numbered → Option ℕ
place_in number [] = None
place_in number (one ∷ others) = if one.number == number then Some one.at else place_in number others

abbrev pub statement_at : Program → ℕ → Option ℕ
statement_at program number = place_in number (of_paragraphs program.paragraphs)

abbrev pub origin_of : Option Word → Option Origin
origin_of None = None
origin_of (Some word) = Some word.origin

abbrev pub origin_at : List Word → Option ℕ → Option Origin
origin_at words None = None
origin_at words (Some at) = origin_of (slice_get words at)

-- where that statement stands in the texts
abbrev pub statement_origin : Program → ℕ → Option Origin
statement_origin program number = origin_at program.words (statement_at program number)
