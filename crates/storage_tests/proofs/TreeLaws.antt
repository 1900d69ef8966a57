-- What is read of expressions and conditions, by their variants.
use Rattle.std.proofs.Common.{ℤ, ◌≡◌, ap, ◌∙◌, Bool}
use Rattle.cobol_syntax.specs.declared.place.Place.{Place}
use Rattle.cobol_syntax.specs.declared.expr.Operand.{Operand}
use Rattle.cobol_syntax.specs.declared.expr.Expr.{Expr, Expr-F, map-Expr, out-Expr, fold_out-Expr}
use Rattle.cobol_syntax.specs.declared.expr.Expr.TheVariants as e
use Rattle.cobol_syntax.specs.declared.cond.Rel.{Rel}
use Rattle.cobol_syntax.specs.declared.cond.Condition.{Condition, out-Condition, fold_out-Condition}
use Rattle.cobol_syntax.specs.declared.cond.CondForm.{CondForm, CondForm-F, map-CondForm, out-CondForm, fold_out-CondForm}
use Rattle.cobol_syntax.specs.declared.cond.CondForm.TheVariants as c
use Rattle.program_meaning.specs.Tree as tree
use Rattle.tree_reading.specs.Reading.{read_place, read_operand, expr_layer, read_expr, read_rel, read_sign, read_class, condition_layer, read_condition}
use Rattle.storage_tests.specs.Joints.{read_asked}

abbrev expr_out_layer : Expr-F Expr → tree.Expr
expr_out_layer l = expr_layer (map-Expr Expr tree.Expr read_expr l)

expr_out : (x : Expr) → read_expr x ≡ expr_out_layer (out-Expr x)
expr_out x = fold_out-Expr tree.Expr expr_layer x

pub read-One : (o : Operand) → read_expr (e.One o) ≡ tree.One (read_operand o)
read-One o = expr_out (e.One o) ∙ ap expr_out_layer (e.outs-One o)

abbrev asked_layer : CondForm-F CondForm Condition → tree.Condition
asked_layer l = condition_layer (map-CondForm CondForm Condition tree.Condition tree.Condition read_asked read_condition l)

asked_out : (x : CondForm) → read_asked x ≡ asked_layer (out-CondForm x)
asked_out x = fold_out-CondForm tree.Condition tree.Condition condition_layer (λ x. x.form) x

pub asked-Relation : (left : Expr) (rel : Rel) (right : Expr) → read_asked (c.Relation left rel right) ≡ tree.Relation (read_expr left) (read_rel rel) (read_expr right)
asked-Relation left rel right = asked_out (c.Relation left rel right) ∙ ap asked_layer (c.outs-Relation left rel right)

pub asked-Class : (place : Place) (numeric : Bool) → read_asked (c.Class place numeric) ≡ read_class numeric place
asked-Class place numeric = asked_out (c.Class place numeric) ∙ ap asked_layer (c.outs-Class place numeric)

pub asked-Sign : (x : Expr) (sign : ℤ) → read_asked (c.Sign x sign) ≡ tree.Sign (read_expr x) (read_sign sign)
asked-Sign x sign = asked_out (c.Sign x sign) ∙ ap asked_layer (c.outs-Sign x sign)

pub asked-Named : (place : Place) → read_asked (c.Named place) ≡ tree.Holds (read_place place)
asked-Named place = asked_out (c.Named place) ∙ ap asked_layer (c.outs-Named place)

pub asked-Not : (x : Condition) → read_asked (c.Not x) ≡ tree.Not (read_condition x)
asked-Not x = asked_out (c.Not x) ∙ ap asked_layer (c.outs-Not x)

pub asked-And : (x y : Condition) → read_asked (c.And x y) ≡ tree.And (read_condition x) (read_condition y)
asked-And x y = asked_out (c.And x y) ∙ ap asked_layer (c.outs-And x y)

pub asked-Or : (x y : Condition) → read_asked (c.Or x y) ≡ tree.Or (read_condition x) (read_condition y)
asked-Or x y = asked_out (c.Or x y) ∙ ap asked_layer (c.outs-Or x y)

pub condition-asked : (x : Condition) → read_condition x ≡ read_asked (out-Condition x).form
condition-asked x = fold_out-Condition tree.Condition tree.Condition condition_layer (λ x. x.form) x
