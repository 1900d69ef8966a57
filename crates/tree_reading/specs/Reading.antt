-- The trees of the reader as trees without positions. Each type has a layer, which says what a node becomes where
-- what it holds has become what it becomes; the fold of a type applies it from the leaves up.
use Rattle.std.specs.Prelude.{ℕ, ℤ, Bool, true, false, List, [], ◌∷◌, Option, Some, None, map, int_lt, pos, cond, replicate, ◌++◌, is_some}
use Rattle.cobol_syntax.specs.declared.place.Place.{Place}
use Rattle.cobol_syntax.specs.declared.place.Part.{Part}
use Rattle.cobol_syntax.specs.declared.place.Sub.{Sub}
use Rattle.cobol_syntax.specs.declared.place.Sub.TheVariants as s
use Rattle.cobol_syntax.specs.declared.expr.Operand.{Operand}
use Rattle.cobol_syntax.specs.declared.expr.Operand.TheVariants as o
use Rattle.cobol_syntax.specs.declared.expr.Expr.{Expr, Expr-F, fold-Expr}
use Rattle.cobol_syntax.specs.declared.expr.Expr.TheOpen as e
use Rattle.cobol_syntax.specs.declared.cond.Condition.{Condition, fold-Condition}
use Rattle.cobol_syntax.specs.declared.cond.CondForm.{CondForm-F}
use Rattle.cobol_syntax.specs.declared.cond.CondForm.TheOpen as c
use Rattle.cobol_syntax.specs.declared.cond.Rel.{Rel}
use Rattle.cobol_syntax.specs.declared.cond.Rel.TheVariants as r
use Rattle.cobol_syntax.specs.declared.statement.Statement.{Statement, fold-Statement}
use Rattle.cobol_syntax.specs.declared.statement.StatementId.{StatementId}
use Rattle.cobol_syntax.specs.declared.statement.Form.{Form, Form-F, fold-Form}
use Rattle.cobol_syntax.specs.declared.statement.Form.TheOpen as f
use Rattle.cobol_syntax.specs.declared.statement.Form.TheOpen.{Branch-F, Statement-F}
use Rattle.cobol_syntax.specs.declared.statement.NamePair.{NamePair}
use Rattle.cobol_syntax.specs.declared.statement.Control.{Control}
use Rattle.cobol_syntax.specs.declared.statement.Control.TheVariants as k
use Rattle.cobol_syntax.specs.declared.statement.Vary.{Vary}
use Rattle.cobol_syntax.specs.declared.statement.Mode.{Mode}
use Rattle.cobol_syntax.specs.declared.statement.Mode.TheVariants as m
use Rattle.cobol_syntax.specs.declared.statement.Register.{Register}
use Rattle.cobol_syntax.specs.declared.statement.Register.TheVariants as g
use Rattle.y2k_base.specs.declared.picture.Picture.{Picture}
use Rattle.y2k_base.specs.declared.picture.Run.{Run}
use Rattle.y2k_base.specs.declared.picture.PicClass.{PicClass}
use Rattle.y2k_base.specs.declared.picture.PicClass.TheVariants as p
use Rattle.cobol_syntax.specs.declared.program.Paragraph.{Paragraph}
use Rattle.cobol_syntax.specs.declared.program.Sentence.{Sentence}
use Rattle.cobol_syntax.specs.declared.program.Usage.{Usage}
use Rattle.cobol_syntax.specs.declared.program.Usage.TheVariants as u
use Rattle.decimal_bytes.specs.declared.form.SignPlace.{SignPlace}
use Rattle.decimal_bytes.specs.declared.form.SignPlace.TheVariants as sign
use Rattle.cobol_syntax.specs.declared.program.Range.{Range}
use Rattle.cobol_syntax.specs.declared.program.Entry.{Entry}
use Rattle.cobol_syntax.specs.declared.program.FileEntry.{FileEntry}
use Rattle.cobol_syntax.specs.declared.program.Select.{Select}
use Rattle.cobol_syntax.specs.declared.program.Program.{Program}
use Rattle.program_meaning.specs.Number as number
use Rattle.program_meaning.specs.Layout as layout
use Rattle.program_meaning.specs.Entries as entries
use Rattle.program_meaning.specs.Portfolio as portfolio
use Rattle.program_meaning.specs.Tree as tree

abbrev pub read_sub : Sub → tree.Subscript
read_sub (s.Number value at) = tree.Literal value
read_sub (s.Name names) = tree.Named names

abbrev pub sub_if : Option Sub → Option tree.Subscript
sub_if None = None
sub_if (Some x) = Some (read_sub x)

abbrev pub part_if : Option Part → Option tree.Part
part_if None = None
part_if (Some p) = Some (record { start = read_sub p.start; length = sub_if p.length })

abbrev pub read_place : Place → tree.Place
read_place p = record { names = p.names; subs = map read_sub p.subs; cut = part_if p.cut }

abbrev pub read_operand : Operand → tree.Operand
read_operand (o.Place p) = tree.At (read_place p)
read_operand (o.Number value digits at) = tree.Number value.number value.scale digits
read_operand (o.Text bytes at) = tree.Text bytes
read_operand (o.Figure byte at) = tree.Figure byte

abbrev pub expr_layer : Expr-F tree.Expr → tree.Expr
expr_layer (e.One x) = tree.One (read_operand x)
expr_layer (e.Minus x) = tree.Minus x
expr_layer (e.Add x y) = tree.Add x y
expr_layer (e.Sub x y) = tree.Sub x y
expr_layer (e.Mul x y) = tree.Mul x y
expr_layer (e.Div x y) = tree.Div x y

abbrev pub read_expr : Expr → tree.Expr
read_expr = fold-Expr tree.Expr expr_layer

abbrev pub read_rel : Rel → tree.Rel
read_rel r.Equal = tree.Equal
read_rel r.Less = tree.Less
read_rel r.Greater = tree.Greater

-- POSITIVE, NEGATIVE or ZERO as 1, -1 or 0
abbrev pub read_sign : ℤ → tree.Rel
read_sign n = cond (int_lt n (pos 0)) tree.Less (cond (int_lt (pos 0) n) tree.Greater tree.Equal)

abbrev pub read_class : Bool → Place → tree.Condition
read_class true p = tree.Numeric (read_place p)
read_class false p = tree.Alphabetic (read_place p)

abbrev pub condition_layer : CondForm-F tree.Condition tree.Condition → tree.Condition
condition_layer (c.Relation left rel right) = tree.Relation (read_expr left) (read_rel rel) (read_expr right)
condition_layer (c.Class of numeric) = read_class numeric of
condition_layer (c.Sign of sign) = tree.Sign (read_expr of) (read_sign sign)
condition_layer (c.Named p) = tree.Holds (read_place p)
condition_layer (c.Not x) = tree.Not x
condition_layer (c.And x y) = tree.And x y
condition_layer (c.Or x y) = tree.Or x y

abbrev pub read_condition : Condition → tree.Condition
read_condition = fold-Condition tree.Condition tree.Condition condition_layer (λ x. x.form)

abbrev pub read_vary : Vary → tree.Vary
read_vary v = record { item = read_place v.item; from = read_operand v.from; by = read_operand v.by }

abbrev pub vary_if : Option Vary → Option tree.Vary
vary_if None = None
vary_if (Some v) = Some (read_vary v)

abbrev pub read_control : Control → tree.Control
read_control k.Once = tree.Once
read_control (k.Times count) = tree.Times (read_operand count)
read_control (k.Until after test vary) = tree.Until after (read_condition test) (vary_if vary)

abbrev pub read_mode : Mode → tree.Mode
read_mode m.Input = tree.Input
read_mode m.Output = tree.Output
read_mode m.Extend = tree.Extend

abbrev pub read_register : Register → tree.Register
read_register g.Date = tree.Date
read_register g.Day = tree.Day
read_register g.Time = tree.Time

abbrev pub read_id : StatementId → tree.StatementId
read_id x = record { program = x.program; number = x.number }

-- a list of statements as the language of the definitions has it
abbrev pub read_list : List tree.Statement → tree.Statements
read_list [] = tree.Nil
read_list (s ∷ ss) = tree.Cons s (read_list ss)

-- no phrase, or the two lists of one
abbrev pub read_phrase : Option tree.Phrase → tree.Phrase
read_phrase None = tree.Absent
read_phrase (Some p) = p

abbrev pub place_if : Option Place → Option tree.Place
place_if None = None
place_if (Some p) = Some (read_place p)

abbrev pub operand_if : Option Operand → Option tree.Operand
operand_if None = None
operand_if (Some x) = Some (read_operand x)

-- without a range the body is performed
abbrev pub read_performed : Option NamePair → List tree.Statement → tree.Performed
read_performed None body = tree.Inline (read_list body)
read_performed (Some range) body = tree.Through range.first range.last

abbrev pub form_layer : Form-F tree.Form tree.Phrase tree.Statement → tree.Form
form_layer (f.Move from to) = tree.Move (read_operand from) (read_place to)
form_layer (f.Compute to rounded value rest size) = tree.Compute (read_place to) rounded (read_expr value) (place_if rest) (read_phrase size)
form_layer (f.If test body other) = tree.If (read_condition test) (read_list body) (read_list other)
form_layer f.NextSentence = tree.NextSentence
form_layer (f.GoTo name) = tree.GoTo name
form_layer f.Stop = tree.Stop
form_layer f.Nothing = tree.Nothing
form_layer (f.Perform range body control) = tree.Perform (read_performed range body) (read_control control)
form_layer (f.Open mode file) = tree.Open (read_mode mode) file
form_layer (f.Close file) = tree.Close file
form_layer (f.Read file into end) = tree.Read file (place_if into) (read_phrase end)
form_layer (f.Write name from advance) = tree.Write name (operand_if from)
form_layer (f.Accept to from) = tree.Accept (read_place to) (read_register from)
form_layer (f.Show operands) = tree.Show (map read_operand operands)

abbrev pub branch_layer : Branch-F tree.Form tree.Phrase tree.Statement → tree.Phrase
branch_layer x = tree.Present (read_list x.yes) (read_list x.no)

abbrev pub statement_layer : Statement-F tree.Form tree.Phrase tree.Statement → tree.Statement
statement_layer x = tree.Stated (read_id x.id) x.form

abbrev pub read_statement : Statement → tree.Statement
read_statement = fold-Statement tree.Form tree.Phrase tree.Statement form_layer branch_layer statement_layer

abbrev pub read_form : Form → tree.Form
read_form = fold-Form tree.Form tree.Phrase tree.Statement form_layer branch_layer statement_layer

abbrev pub read_statements : List Statement → tree.Statements
read_statements xs = read_list (map read_statement xs)

abbrev pub read_sentence : Sentence → tree.Statements
read_sentence x = read_statements x.statements

abbrev pub read_paragraph : Paragraph → tree.Paragraph
read_paragraph p = record { name = p.name; section = p.section; sentences = map read_sentence p.sentences }

abbrev pub read_usage : Usage → number.Usage
read_usage u.Display = number.Display
read_usage u.Packed = number.Packed
read_usage u.Binary = number.Binary

abbrev pub read_sign_place : SignPlace → number.SignPlace
read_sign_place sign.Trailing = number.Trailing
read_sign_place sign.Leading = number.Leading
read_sign_place sign.TrailingSeparate = number.TrailingSeparate
read_sign_place sign.LeadingSeparate = number.LeadingSeparate

-- a picture written out, a symbol for each place
abbrev pub written_out : List Run → List ℕ
written_out [] = []
written_out (x ∷ xs) = replicate x.count x.symbol ++ written_out xs

abbrev pub read_picture : PicClass → List ℕ → entries.Picture
read_picture p.Text ss = entries.TextPicture ss
read_picture p.Number ss = entries.NumberPicture ss
read_picture p.Edited ss = entries.EditedPicture ss

abbrev pub picture_if : Option Picture → Option entries.Picture
picture_if None = None
picture_if (Some x) = Some (read_picture x.class (written_out x.runs))

-- an entry without a name has an empty one
abbrev pub name_if : Option (List ℕ) → List ℕ
name_if None = []
name_if (Some n) = n

abbrev pub read_values : Range → layout.Values
read_values x = record { low = read_operand x.low; high = operand_if x.high }

abbrev pub read_entry : Entry → entries.Entry
read_entry x =
    record { level = x.level; name = name_if x.name; redefines = is_some x.redefines; occurs = x.occurs; picture = picture_if x.picture; usage = read_usage x.usage; sign = read_sign_place x.sign; value = operand_if x.value; values = map read_values x.ranges }

abbrev pub read_file : FileEntry → entries.FileEntry
read_file x = record { name = x.name; entries = map read_entry x.entries }

abbrev pub read_select : Select → portfolio.Select
read_select x = record { name = x.name; external = x.external; status = place_if x.status }

-- a whole program. Its words, its name and the lengths that its RECORD CONTAINS give have no part in a run
abbrev pub read_program : Program → portfolio.Source
read_program x =
    record { selects = map read_select x.selects; files = map read_file x.files; storage = map read_entry x.storage; paragraphs = map read_paragraph x.paragraphs }
