-- What it is that a tree fits, by its variants.
use Rattle.std.proofs.Common.{ℕ, ℤ, ◌≡◌, ap, ◌∙◌, Bool, ◌&&◌}
use Rattle.cobol_syntax.specs.declared.place.Place.{Place}
use Rattle.cobol_syntax.specs.declared.expr.Operand.{Operand}
use Rattle.cobol_syntax.specs.declared.expr.Expr.{Expr, Expr-F, map-Expr, out-Expr, fold_out-Expr}
use Rattle.cobol_syntax.specs.declared.expr.Expr.TheVariants as e
use Rattle.cobol_syntax.specs.declared.cond.Rel.{Rel}
use Rattle.cobol_syntax.specs.declared.cond.Condition.{Condition, out-Condition, roll-Condition, fold_out-Condition}
use Rattle.cobol_syntax.specs.declared.cond.CondForm.{CondForm, CondForm-F, map-CondForm, out-CondForm, fold_out-CondForm}
use Rattle.cobol_syntax.specs.declared.cond.CondForm.TheVariants as c
use Rattle.tree_words.specs.Fits.{is_part, place_fits, operand_fits, expr_layer, expr_fits, form_layer, condition_layer, question_fits, condition_fits}

module _ (words : ℕ) where
  abbrev expr_out_layer : Expr-F Expr → Bool
  expr_out_layer l = expr_layer words (map-Expr Expr Bool (expr_fits words) l)

  expr_out : (x : Expr) → expr_fits words x ≡ expr_out_layer (out-Expr x)
  unfolding expr_fits
  expr_out x = fold_out-Expr Bool (expr_layer words) x

  pub fits-One : (o : Operand) → expr_fits words (e.One o) ≡ operand_fits words o
  fits-One o = expr_out (e.One o) ∙ ap expr_out_layer (e.outs-One o)

  pub fits-Minus : (x : Expr) → expr_fits words (e.Minus x) ≡ expr_fits words x
  fits-Minus x = expr_out (e.Minus x) ∙ ap expr_out_layer (e.outs-Minus x)

  pub fits-Add : (x y : Expr) → expr_fits words (e.Add x y) ≡ (expr_fits words x && expr_fits words y)
  fits-Add x y = expr_out (e.Add x y) ∙ ap expr_out_layer (e.outs-Add x y)

  pub fits-Sub : (x y : Expr) → expr_fits words (e.Sub x y) ≡ (expr_fits words x && expr_fits words y)
  fits-Sub x y = expr_out (e.Sub x y) ∙ ap expr_out_layer (e.outs-Sub x y)

  pub fits-Mul : (x y : Expr) → expr_fits words (e.Mul x y) ≡ (expr_fits words x && expr_fits words y)
  fits-Mul x y = expr_out (e.Mul x y) ∙ ap expr_out_layer (e.outs-Mul x y)

  pub fits-Div : (x y : Expr) → expr_fits words (e.Div x y) ≡ (expr_fits words x && expr_fits words y)
  fits-Div x y = expr_out (e.Div x y) ∙ ap expr_out_layer (e.outs-Div x y)

  abbrev form_out_layer : CondForm-F CondForm Condition → Bool
  form_out_layer l = form_layer words (map-CondForm CondForm Condition Bool Bool (question_fits words) (condition_fits words) l)

  form_out : (x : CondForm) → question_fits words x ≡ form_out_layer (out-CondForm x)
  unfolding question_fits condition_fits
  form_out x = fold_out-CondForm Bool Bool (form_layer words) (condition_layer words) x

  pub fits-Relation : (left : Expr) (rel : Rel) (right : Expr) → question_fits words (c.Relation left rel right) ≡ (expr_fits words left && expr_fits words right)
  fits-Relation left rel right = form_out (c.Relation left rel right) ∙ ap form_out_layer (c.outs-Relation left rel right)

  pub fits-Not : (x : Condition) → question_fits words (c.Not x) ≡ condition_fits words x
  fits-Not x = form_out (c.Not x) ∙ ap form_out_layer (c.outs-Not x)

  pub fits-Class : (place : Place) (numeric : Bool) → question_fits words (c.Class place numeric) ≡ place_fits words place
  fits-Class place numeric = form_out (c.Class place numeric) ∙ ap form_out_layer (c.outs-Class place numeric)

  pub fits-Sign : (x : Expr) (sign : ℤ) → question_fits words (c.Sign x sign) ≡ expr_fits words x
  fits-Sign x sign = form_out (c.Sign x sign) ∙ ap form_out_layer (c.outs-Sign x sign)

  pub fits-Named : (place : Place) → question_fits words (c.Named place) ≡ place_fits words place
  fits-Named place = form_out (c.Named place) ∙ ap form_out_layer (c.outs-Named place)

  pub fits-And : (x y : Condition) → question_fits words (c.And x y) ≡ (condition_fits words x && condition_fits words y)
  fits-And x y = form_out (c.And x y) ∙ ap form_out_layer (c.outs-And x y)

  pub fits-Or : (x y : Condition) → question_fits words (c.Or x y) ≡ (condition_fits words x && condition_fits words y)
  fits-Or x y = form_out (c.Or x y) ∙ ap form_out_layer (c.outs-Or x y)

  pub condition_out : (x : Condition) → condition_fits words x ≡ (is_part words (out-Condition x).at (out-Condition x).end && question_fits words (out-Condition x).form)
  unfolding question_fits condition_fits
  condition_out x = fold_out-Condition Bool Bool (form_layer words) (condition_layer words) x

  pub fits-rolled : (i j : ℕ) (f : CondForm) → condition_fits words (roll-Condition (record { at = i; end = j; form = f })) ≡ (is_part words i j && question_fits words f)
  fits-rolled i j f = condition_out (roll-Condition (record { at = i; end = j; form = f }))
