-- The rules of expressions and of conditions.
use Rattle.std.specs.Prelude.{List, [], ◌∷◌, ◌++◌, Option, Some, None}
use Rattle.y2k_base.specs.declared.word.Origin.{Origin}
use Rattle.cobol_syntax.specs.declared.place.Place.{Place}
use Rattle.cobol_syntax.specs.declared.expr.Operand.{Operand}
use Rattle.cobol_syntax.specs.declared.cond.Condition.{Condition, fold-Condition}
use Rattle.cobol_syntax.specs.declared.cond.CondForm.{CondForm-F}
use Rattle.cobol_syntax.specs.declared.cond.CondForm.TheOpen as c
use Rattle.data_layout.specs.declared.item.Layout.{Layout}
use Rattle.year_labels.specs.declared.rule.RuleInst.{RuleInst}
use Rattle.date_views.specs.declared.side.Side.{Side}
use Rattle.date_views.specs.Sides.{side_of}
use Rattle.date_views.specs.Moves.{compare_rules}
use Rattle.date_views.specs.Sums.{sum_rules, difference_rules}
use Rattle.statement_rules.specs.Trees.{Tree, Just, Negated, Sum, Difference, Product, Quotient, tree_of, single}
use Rattle.statement_rules.specs.Names.{use_if, place_rules, operand_rules, operand_side, operand_use}

-- every item of an expression is plain
abbrev pub plain_tree : Layout → Origin → Tree → List RuleInst
plain_tree layout at (Just x) = operand_use layout at x
plain_tree layout at (Negated t) = plain_tree layout at t
plain_tree layout at (Sum s t) = plain_tree layout at s ++ plain_tree layout at t
plain_tree layout at (Difference s t) = plain_tree layout at s ++ plain_tree layout at t
plain_tree layout at (Product s t) = plain_tree layout at s ++ plain_tree layout at t
plain_tree layout at (Quotient s t) = plain_tree layout at s ++ plain_tree layout at t

abbrev pub compare_if : Origin → Option Side → Option Side → List RuleInst
compare_if at (Some left) (Some right) = compare_rules at left right
compare_if at (Some left) None = []
compare_if at None right = []

abbrev pub compared : Layout → Origin → Operand → Operand → List RuleInst
compared layout at x y =
    operand_rules layout at x ++ (operand_rules layout at y ++ compare_if at (operand_side layout x) (operand_side layout y))

-- two operands are compared; a relation with an expression that has an operator or a sign makes all its items plain
abbrev pub related : Layout → Origin → Tree → Tree → Option Operand → Option Operand → List RuleInst
related layout at s t (Some x) (Some y) = compared layout at x y
related layout at s t (Some x) None = plain_tree layout at s ++ plain_tree layout at t
related layout at s t None right = plain_tree layout at s ++ plain_tree layout at t

abbrev pub relation_rules : Layout → Origin → Tree → Tree → List RuleInst
relation_rules layout at s t = related layout at s t (single s) (single t)

abbrev pub condition_layer : Layout → Origin → CondForm-F (List RuleInst) (List RuleInst) → List RuleInst
condition_layer layout at (c.Relation left rel right) = relation_rules layout at (tree_of left) (tree_of right)
condition_layer layout at (c.Class of numeric) = place_rules layout at of
condition_layer layout at (c.Sign of sign) = plain_tree layout at (tree_of of)
condition_layer layout at (c.Named place) = place_rules layout at place
condition_layer layout at (c.Not x) = x
condition_layer layout at (c.And x y) = x ++ y
condition_layer layout at (c.Or x y) = x ++ y

abbrev pub condition_rules : Layout → Origin → Condition → List RuleInst
condition_rules layout at = fold-Condition (List RuleInst) (List RuleInst) (condition_layer layout at) (λ x. x.form)

-- arithmetic that is no sum and no difference of two operands: all items are plain, the receiver too
abbrev pub other_value : Layout → Origin → Place → Tree → List RuleInst
other_value layout at to t = use_if at (side_of layout to) ++ plain_tree layout at t

-- to = x + y
abbrev pub summed : Layout → Origin → Place → Operand → Operand → List RuleInst
summed layout at to x y =
    operand_rules layout at x
    ++ (operand_rules layout at y ++ sum_rules at (operand_side layout x) (operand_side layout y) (side_of layout to))

-- to = x - y
abbrev pub subtracted : Layout → Origin → Place → Operand → Operand → List RuleInst
subtracted layout at to x y =
    operand_rules layout at x
    ++ (operand_rules layout at y ++ difference_rules at (operand_side layout y) (operand_side layout x) (side_of layout to))

abbrev pub sum_value : Layout → Origin → Place → Tree → Option Operand → Option Operand → List RuleInst
sum_value layout at to t (Some x) (Some y) = summed layout at to x y
sum_value layout at to t (Some x) None = other_value layout at to t
sum_value layout at to t None right = other_value layout at to t

abbrev pub difference_value : Layout → Origin → Place → Tree → Option Operand → Option Operand → List RuleInst
difference_value layout at to t (Some x) (Some y) = subtracted layout at to x y
difference_value layout at to t (Some x) None = other_value layout at to t
difference_value layout at to t None right = other_value layout at to t

-- what is stored in a receiver
abbrev pub value_rules : Layout → Origin → Place → Tree → List RuleInst
value_rules layout at to (Just x) = other_value layout at to (Just x)
value_rules layout at to (Negated t) = other_value layout at to (Negated t)
value_rules layout at to (Sum s t) = sum_value layout at to (Sum s t) (single s) (single t)
value_rules layout at to (Difference s t) = difference_value layout at to (Difference s t) (single s) (single t)
value_rules layout at to (Product s t) = other_value layout at to (Product s t)
value_rules layout at to (Quotient s t) = other_value layout at to (Quotient s t)
