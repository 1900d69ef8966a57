-- What it is that a statement fits, by its variants.
use Rattle.std.proofs.Common.{ℕ, ◌≡◌, ap, ◌∙◌, Bool, true, ◌&&◌, List, map, Option, Some, None}
use Rattle.cobol_syntax.specs.declared.place.Place.{Place}
use Rattle.cobol_syntax.specs.declared.expr.Operand.{Operand}
use Rattle.cobol_syntax.specs.declared.expr.Expr.{Expr}
use Rattle.cobol_syntax.specs.declared.cond.Condition.{Condition}
use Rattle.cobol_syntax.specs.declared.statement.StatementId.{StatementId}
use Rattle.cobol_syntax.specs.declared.statement.NamePair.{NamePair}
use Rattle.cobol_syntax.specs.declared.statement.Control.{Control}
use Rattle.cobol_syntax.specs.declared.statement.Mode.{Mode}
use Rattle.cobol_syntax.specs.declared.statement.Register.{Register}
use Rattle.cobol_syntax.specs.declared.statement.Statement.{Statement, roll-Statement, fold_out-Statement}
use Rattle.cobol_syntax.specs.declared.statement.Branch.{Branch, map-Branch, roll-Branch, fold-roll-Branch}
use Rattle.cobol_syntax.specs.declared.statement.Form.{Form, Form-F, map-Form, out-Form, fold_out-Form}
use Rattle.cobol_syntax.specs.declared.statement.Form.TheVariants as f
use Rattle.cobol_syntax.specs.declared.statement.Form.TheOpen.{Branch-F}
use Rattle.tree_words.specs.Fits.{all_true, if_any, is_part, place_fits, operand_fits, expr_fits, condition_fits, control_fits, statement_form_layer, branch_layer, statement_layer, form_fits, branch_fits, statement_fits, list_fits}

module _ (words : ℕ) where
  abbrev form_out_layer : Form-F Form Branch Statement → Bool
  form_out_layer l = statement_form_layer words (map-Form Form Branch Statement Bool Bool Bool (form_fits words) (branch_fits words) (statement_fits words) l)

  form_out : (x : Form) → form_fits words x ≡ form_out_layer (out-Form x)
  unfolding form_fits branch_fits statement_fits
  form_out x = fold_out-Form Bool Bool Bool (statement_form_layer words) (branch_layer words) (statement_layer words) x

  pub fits-Move : (from : Operand) (to : Place) → form_fits words (f.Move from to) ≡ (operand_fits words from && place_fits words to)
  fits-Move from to = form_out (f.Move from to) ∙ ap form_out_layer (f.outs-Move from to)

  pub fits-Compute : (to : Place) (rounded : Bool) (value : Expr) (rest : Option Place) → (size : Option Branch)
      → form_fits words (f.Compute to rounded value rest size) ≡ (place_fits words to && (expr_fits words value && (if_any (place_fits words) rest && if_any (branch_fits words) size)))
  fits-Compute to rounded value rest None = form_out (f.Compute to rounded value rest None) ∙ ap form_out_layer (f.outs-Compute to rounded value rest None)
  fits-Compute to rounded value rest (Some b) = form_out (f.Compute to rounded value rest (Some b)) ∙ ap form_out_layer (f.outs-Compute to rounded value rest (Some b))

  pub fits-If : (test : Condition) (body other : List Statement) → form_fits words (f.If test body other) ≡ (condition_fits words test && (list_fits words body && list_fits words other))
  fits-If test body other = form_out (f.If test body other) ∙ ap form_out_layer (f.outs-If test body other)

  pub fits-NextSentence : form_fits words f.NextSentence ≡ true
  fits-NextSentence = form_out f.NextSentence ∙ ap form_out_layer f.outs-NextSentence

  pub fits-GoTo : (name : List ℕ) → form_fits words (f.GoTo name) ≡ true
  fits-GoTo name = form_out (f.GoTo name) ∙ ap form_out_layer (f.outs-GoTo name)

  pub fits-Stop : form_fits words f.Stop ≡ true
  fits-Stop = form_out f.Stop ∙ ap form_out_layer f.outs-Stop

  pub fits-Nothing : form_fits words f.Nothing ≡ true
  fits-Nothing = form_out f.Nothing ∙ ap form_out_layer f.outs-Nothing

  pub fits-Perform : (range : Option NamePair) (body : List Statement) (control : Control)
      → form_fits words (f.Perform range body control) ≡ (list_fits words body && control_fits words control)
  fits-Perform range body control = form_out (f.Perform range body control) ∙ ap form_out_layer (f.outs-Perform range body control)

  pub fits-Open : (mode : Mode) (file : List ℕ) → form_fits words (f.Open mode file) ≡ true
  fits-Open mode file = form_out (f.Open mode file) ∙ ap form_out_layer (f.outs-Open mode file)

  pub fits-Close : (file : List ℕ) → form_fits words (f.Close file) ≡ true
  fits-Close file = form_out (f.Close file) ∙ ap form_out_layer (f.outs-Close file)

  pub fits-Read : (file : List ℕ) (into : Option Place) (end : Option Branch)
      → form_fits words (f.Read file into end) ≡ (if_any (place_fits words) into && if_any (branch_fits words) end)
  fits-Read file into None = form_out (f.Read file into None) ∙ ap form_out_layer (f.outs-Read file into None)
  fits-Read file into (Some b) = form_out (f.Read file into (Some b)) ∙ ap form_out_layer (f.outs-Read file into (Some b))

  pub fits-Write : (name : List ℕ) (from advance : Option Operand)
      → form_fits words (f.Write name from advance) ≡ (if_any (operand_fits words) from && if_any (operand_fits words) advance)
  fits-Write name from advance = form_out (f.Write name from advance) ∙ ap form_out_layer (f.outs-Write name from advance)

  pub fits-Accept : (to : Place) (from : Register) → form_fits words (f.Accept to from) ≡ place_fits words to
  fits-Accept to from = form_out (f.Accept to from) ∙ ap form_out_layer (f.outs-Accept to from)

  pub fits-Show : (operands : List Operand) → form_fits words (f.Show operands) ≡ all_true (map (operand_fits words) operands)
  fits-Show operands = form_out (f.Show operands) ∙ ap form_out_layer (f.outs-Show operands)

  abbrev branch_of_layer : Branch-F Form Branch Statement → Bool
  branch_of_layer l = branch_layer words (map-Branch Form Branch Statement Bool Bool Bool (form_fits words) (branch_fits words) (statement_fits words) l)

  branch_rolled : (l : Branch-F Form Branch Statement) → branch_fits words (roll-Branch l) ≡ branch_of_layer l
  unfolding form_fits branch_fits statement_fits
  branch_rolled l = fold-roll-Branch Bool Bool Bool (statement_form_layer words) (branch_layer words) (statement_layer words) l

  pub fits-branch : (first second : List Statement) → branch_fits words (roll-Branch (record { yes = first; no = second })) ≡ (list_fits words first && list_fits words second)
  fits-branch first second = branch_rolled (record { yes = first; no = second })

  pub fits-statement : (id : StatementId) (i j : ℕ) (form : Form)
      → statement_fits words (roll-Statement (record { id = id; at = i; end = j; form = form })) ≡ (is_part words i j && form_fits words form)
  unfolding form_fits branch_fits statement_fits
  fits-statement id i j form = fold_out-Statement Bool Bool Bool (statement_form_layer words) (branch_layer words) (statement_layer words) (roll-Statement (record { id = id; at = i; end = j; form = form }))
