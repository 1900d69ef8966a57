-- What of a program may be written anew, in the order of its text: what a statement gives itself comes before what those within
-- it give.
use Rattle.std.specs.Prelude.{ℕ, Bool, List, [], ◌∷◌, ◌++◌, map, Option, Some, None}
use Rattle.std.specs.List.{fold, cons_option}
use denote.Ref.{Bor}
use Rattle.cobol_syntax.specs.declared.place.Place.{Place}
use Rattle.cobol_syntax.specs.declared.expr.Operand.{Operand}
use Rattle.cobol_syntax.specs.declared.expr.Expr.{Expr}
use Rattle.cobol_syntax.specs.declared.cond.Condition.{Condition}
use Rattle.cobol_syntax.specs.declared.statement.Control.{Control}
use Rattle.cobol_syntax.specs.declared.statement.Control.TheVariants as k
use Rattle.cobol_syntax.specs.declared.statement.Register.{Register}
use Rattle.cobol_syntax.specs.declared.statement.Statement.{Statement, fold-Statement}
use Rattle.cobol_syntax.specs.declared.statement.Branch.{Branch, fold-Branch}
use Rattle.cobol_syntax.specs.declared.statement.Form.{Form, Form-F, fold-Form}
use Rattle.cobol_syntax.specs.declared.statement.Form.TheOpen as f
use Rattle.cobol_syntax.specs.declared.statement.Form.TheOpen.{Branch-F, Statement-F}
use Rattle.cobol_syntax.specs.declared.program.Sentence.{Sentence}
use Rattle.cobol_syntax.specs.declared.program.Paragraph.{Paragraph}
use Rattle.cobol_syntax.specs.declared.program.Program.{Program}
use Rattle.statement_places.specs.declared.parts.Part.{Part}
use Rattle.statement_places.specs.declared.parts.Part.TheVariants as part
use Rattle.statement_places.specs.declared.left.Left.{Left}

-- a MOVE, a computation, an ACCEPT, with where the text statement begins and ends, and a condition
pub data Seen : Type 0 where
  Move : (at end : ℕ) (from : Operand) (to : Place) → Seen
  Compute : (at end : ℕ) (to : Place) (rounded : Bool) (value : Expr) → Seen
  Accept : (at end : ℕ) (to : Place) (from : Register) → Seen
  Test : (of : Condition) → Seen

-- what a part refers to
abbrev pub seen : Part → Seen
seen (part.Move at end from to) = Move at end from.now to.now
seen (part.Compute at end to rounded value) = Compute at end to.now rounded value.now
seen (part.Accept at end to from) = Accept at end to.now from
seen (part.Test of) = Test of.now

abbrev pub joined : List (List Seen) → List Seen
joined [] = []
joined (one ∷ more) = one ++ joined more

-- the parts of a phrase, if there is one
abbrev pub phrase : Option (List Seen) → List Seen
phrase None = []
phrase (Some inner) = inner

-- what a statement gives itself that begins and ends there, and what those within it give
pub record Given : Type 0 where
  pub own : ℕ → ℕ → Option Seen
  pub within : List Seen

abbrev pub only : (ℕ → ℕ → Option Seen) → Given
only own = record { own = own; within = [] }

abbrev pub nothing : ℕ → ℕ → Option Seen
nothing at end = None

abbrev pub control_part : Control → Option Seen
control_part k.Once = None
control_part (k.Times count) = None
control_part (k.Until after test vary) = Some (Test test)

abbrev pub form_layer : Form-F Given (List Seen) (List Seen) → Given
form_layer (f.Move from to) = only (λ at end. Some (Move at end from to))
form_layer (f.Compute to rounded value rest size) = record { own = λ at end. Some (Compute at end to rounded value); within = phrase size }
form_layer (f.If test body other) = record { own = λ at end. Some (Test test); within = joined body ++ joined other }
form_layer f.NextSentence = only nothing
form_layer (f.GoTo name) = only nothing
form_layer f.Stop = only nothing
form_layer f.Nothing = only nothing
form_layer (f.Perform range body control) = record { own = λ at end. control_part control; within = joined body }
form_layer (f.Open mode file) = only nothing
form_layer (f.Close file) = only nothing
form_layer (f.Read file into end) = record { own = nothing; within = phrase end }
form_layer (f.Write name from advance) = only nothing
form_layer (f.Accept to from) = only (λ at end. Some (Accept at end to from))
form_layer (f.Show operands) = only nothing

abbrev pub branch_layer : Branch-F Given (List Seen) (List Seen) → List Seen
branch_layer x = joined x.yes ++ joined x.no

abbrev pub statement_layer : Statement-F Given (List Seen) (List Seen) → List Seen
statement_layer x = cons_option (x.form.own x.at x.end) x.form.within

abbrev pub from_statement : Statement → List Seen
from_statement = fold-Statement Given (List Seen) (List Seen) form_layer branch_layer statement_layer

abbrev pub given : Form → Given
given = fold-Form Given (List Seen) (List Seen) form_layer branch_layer statement_layer

abbrev pub of_branch : Branch → List Seen
of_branch = fold-Branch Given (List Seen) (List Seen) form_layer branch_layer statement_layer

abbrev pub branch_if : Option Branch → List Seen
branch_if None = []
branch_if (Some branch) = of_branch branch

abbrev pub of_statements : List Statement → List Seen
of_statements statements = joined (map from_statement statements)

abbrev pub of_sentences : List Sentence → List Seen
of_sentences [] = []
of_sentences (sentence ∷ sentences) = of_statements sentence.statements ++ of_sentences sentences

abbrev pub of_paragraphs : List Paragraph → List Seen
of_paragraphs [] = []
of_paragraphs (one ∷ others) = of_sentences one.sentences ++ of_paragraphs others

-- all parts of a program
abbrev pub parts : Program → List Seen
parts program = of_paragraphs program.paragraphs

-- those of what is left to look at
abbrev pub left_of : List (Bor (List Statement)) → List Seen
left_of = fold (λ found list. of_statements list.now ++ found) []

abbrev pub left : Left → List Seen
left l = left_of l.lists.items
