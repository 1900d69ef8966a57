-- Whether a tree fits so many words: each position of a word is below their number, each position after a last word at
-- most it, and each number literal has the value and the digits of a number that a word can spell.
use Rattle.std.specs.Prelude.{ℕ, ◌^◌, suc, ℤ, pos, negsuc, nat_lt, nat_le, Bool, true, ◌&&◌, List, [], ◌∷◌, length, map, Option, Some, None}
use Rattle.decimal_bytes.specs.declared.form.Scaled.{Scaled}
use Rattle.cobol_syntax.specs.declared.place.Sub.{Sub}
use Rattle.cobol_syntax.specs.declared.place.Sub.TheVariants as sub
use Rattle.cobol_syntax.specs.declared.place.Part.{Part}
use Rattle.cobol_syntax.specs.declared.place.Place.{Place}
use Rattle.cobol_syntax.specs.declared.expr.Operand.{Operand}
use Rattle.cobol_syntax.specs.declared.expr.Operand.TheVariants as operand
use Rattle.cobol_syntax.specs.declared.expr.Expr.{Expr, Expr-F, fold-Expr}
use Rattle.cobol_syntax.specs.declared.expr.Expr.TheOpen as e
use Rattle.cobol_syntax.specs.declared.cond.Condition.{Condition, fold-Condition}
use Rattle.cobol_syntax.specs.declared.cond.CondForm.{CondForm, CondForm-F, fold-CondForm}
use Rattle.cobol_syntax.specs.declared.cond.CondForm.TheOpen.{Condition-F}
use Rattle.cobol_syntax.specs.declared.cond.CondForm.TheOpen as c
use Rattle.cobol_syntax.specs.declared.statement.Control.{Control}
use Rattle.cobol_syntax.specs.declared.statement.Control.TheVariants as control
use Rattle.cobol_syntax.specs.declared.statement.Vary.{Vary}
use Rattle.cobol_syntax.specs.declared.statement.Statement.{Statement, fold-Statement}
use Rattle.cobol_syntax.specs.declared.statement.Branch.{Branch, fold-Branch}
use Rattle.cobol_syntax.specs.declared.statement.Form.{Form, Form-F, fold-Form}
use Rattle.cobol_syntax.specs.declared.statement.Form.TheOpen as f
use Rattle.cobol_syntax.specs.declared.statement.Form.TheOpen.{Branch-F, Statement-F}
use Rattle.cobol_syntax.specs.declared.program.Entry.{Entry}
use Rattle.cobol_syntax.specs.declared.program.FileEntry.{FileEntry}
use Rattle.cobol_syntax.specs.declared.program.Paragraph.{Paragraph}
use Rattle.cobol_syntax.specs.declared.program.Program.{Program}
use Rattle.cobol_syntax.specs.declared.program.Range.{Range}
use Rattle.cobol_syntax.specs.declared.program.Select.{Select}
use Rattle.cobol_syntax.specs.declared.program.Sentence.{Sentence}

abbrev pub all_true : List Bool → Bool
all_true [] = true
all_true (b ∷ bs) = b && all_true bs

abbrev pub if_any : {A : Type 0} → (A → Bool) → Option A → Bool
if_any fits None = true
if_any fits (Some x) = fits x

abbrev pub magnitude : ℤ → ℕ
magnitude (pos n) = n
magnitude (negsuc n) = suc n

-- of 1 to 18 digits, of which so many may stand after the point
abbrev pub is_numeral : Scaled → ℕ → Bool
is_numeral value digits =
    nat_le 1 digits && (nat_le digits 18 && (nat_le value.scale digits && nat_lt (magnitude value.number) (10 ^ digits)))

module _ (words : ℕ) where
  -- a part of the words: where its first stands, and where it has ended
  abbrev pub is_part : ℕ → ℕ → Bool
  is_part at end = nat_lt at words && nat_le end words

  abbrev pub sub_fits : Sub → Bool
  sub_fits (sub.Number value at) = nat_lt at words
  sub_fits (sub.Name names) = true

  abbrev pub cut_fits : Part → Bool
  cut_fits part = sub_fits part.start && if_any sub_fits part.length

  abbrev pub place_fits : Place → Bool
  place_fits place = is_part place.at place.end && (all_true (map sub_fits place.subs) && if_any cut_fits place.cut)

  abbrev pub operand_fits : Operand → Bool
  operand_fits (operand.Place place) = place_fits place
  operand_fits (operand.Number value digits at) = nat_lt at words && is_numeral value digits
  operand_fits (operand.Text bytes at) = nat_lt at words
  operand_fits (operand.Figure byte at) = nat_lt at words

  abbrev pub expr_layer : Expr-F Bool → Bool
  expr_layer (e.One x) = operand_fits x
  expr_layer (e.Minus x) = x
  expr_layer (e.Add x y) = x && y
  expr_layer (e.Sub x y) = x && y
  expr_layer (e.Mul x y) = x && y
  expr_layer (e.Div x y) = x && y

  unfoldable pub expr_fits : Expr → Bool
  expr_fits = fold-Expr Bool expr_layer

  abbrev pub form_layer : CondForm-F Bool Bool → Bool
  form_layer (c.Relation left rel right) = expr_fits left && expr_fits right
  form_layer (c.Class of numeric) = place_fits of
  form_layer (c.Sign of sign) = expr_fits of
  form_layer (c.Named place) = place_fits place
  form_layer (c.Not x) = x
  form_layer (c.And x y) = x && y
  form_layer (c.Or x y) = x && y

  abbrev pub condition_layer : Condition-F Bool Bool → Bool
  condition_layer x = is_part x.at x.end && x.form

  unfoldable pub question_fits : CondForm → Bool
  question_fits = fold-CondForm Bool Bool form_layer condition_layer

  unfoldable pub condition_fits : Condition → Bool
  condition_fits = fold-Condition Bool Bool form_layer condition_layer

  abbrev pub vary_fits : Vary → Bool
  vary_fits vary = place_fits vary.item && (operand_fits vary.from && operand_fits vary.by)

  abbrev pub control_fits : Control → Bool
  control_fits control.Once = true
  control_fits (control.Times count) = operand_fits count
  control_fits (control.Until after test vary) = condition_fits test && if_any vary_fits vary

  abbrev pub if_true : Option Bool → Bool
  if_true None = true
  if_true (Some b) = b

  abbrev pub statement_form_layer : Form-F Bool Bool Bool → Bool
  statement_form_layer (f.Move from to) = operand_fits from && place_fits to
  statement_form_layer (f.Compute to rounded value rest size) = place_fits to && (expr_fits value && (if_any place_fits rest && if_true size))
  statement_form_layer (f.If test body other) = condition_fits test && (all_true body && all_true other)
  statement_form_layer f.NextSentence = true
  statement_form_layer (f.GoTo name) = true
  statement_form_layer f.Stop = true
  statement_form_layer f.Nothing = true
  statement_form_layer (f.Perform range body control) = all_true body && control_fits control
  statement_form_layer (f.Open mode file) = true
  statement_form_layer (f.Close file) = true
  statement_form_layer (f.Read file into end) = if_any place_fits into && if_true end
  statement_form_layer (f.Write name from advance) = if_any operand_fits from && if_any operand_fits advance
  statement_form_layer (f.Accept to from) = place_fits to
  statement_form_layer (f.Show operands) = all_true (map operand_fits operands)

  abbrev pub branch_layer : Branch-F Bool Bool Bool → Bool
  branch_layer x = all_true x.yes && all_true x.no

  abbrev pub statement_layer : Statement-F Bool Bool Bool → Bool
  statement_layer x = is_part x.at x.end && x.form

  unfoldable pub form_fits : Form → Bool
  form_fits = fold-Form Bool Bool Bool statement_form_layer branch_layer statement_layer

  unfoldable pub branch_fits : Branch → Bool
  branch_fits = fold-Branch Bool Bool Bool statement_form_layer branch_layer statement_layer

  unfoldable pub statement_fits : Statement → Bool
  statement_fits = fold-Statement Bool Bool Bool statement_form_layer branch_layer statement_layer

  abbrev pub list_fits : List Statement → Bool
  list_fits list = all_true (map statement_fits list)

  abbrev pub sentence_fits : Sentence → Bool
  sentence_fits sentence = list_fits sentence.statements

  abbrev pub paragraph_fits : Paragraph → Bool
  paragraph_fits paragraph = nat_lt paragraph.at words && all_true (map sentence_fits paragraph.sentences)

  abbrev pub range_fits : Range → Bool
  range_fits range = operand_fits range.low && if_any operand_fits range.high

  -- without a PICTURE its position is 0
  abbrev pub entry_fits : Entry → Bool
  entry_fits entry =
      nat_lt entry.at words
      && (nat_lt entry.picture_at words && (if_any operand_fits entry.value && all_true (map range_fits entry.ranges)))

  abbrev pub file_fits : FileEntry → Bool
  file_fits file = nat_lt file.at words && (if_any operand_fits file.contains && all_true (map entry_fits file.entries))

  abbrev pub select_fits : Select → Bool
  select_fits select = nat_lt select.at words && if_any place_fits select.status

-- a program's tree fits its words
abbrev pub program_fits : Program → Bool
program_fits p =
    let words = length p.words in
    all_true (map (select_fits words) p.selects)
    && (all_true (map (file_fits words) p.files) && (all_true (map (entry_fits words) p.storage) && all_true (map (paragraph_fits words) p.paragraphs)))
