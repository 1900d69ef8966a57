-- The links of conditions and of arithmetic. Two numbers that are compared by value may have unlike modes.
use Rattle.std.specs.Prelude.{List, [], ◌++◌, Option, Some, None, if◌then◌else◌}
use Rattle.y2k_base.specs.declared.word.Origin.{Origin}
use Rattle.cobol_syntax.specs.declared.place.Place.{Place}
use Rattle.cobol_syntax.specs.declared.expr.Operand.{Operand}
use Rattle.cobol_syntax.specs.declared.cond.Condition.{Condition, fold-Condition}
use Rattle.cobol_syntax.specs.declared.cond.CondForm.{CondForm-F}
use Rattle.cobol_syntax.specs.declared.cond.CondForm.TheOpen as c
use Rattle.data_layout.specs.declared.item.Layout.{Layout}
use Rattle.operand_kinds.specs.Kinds.{compares_values}
use Rattle.year_labels.specs.declared.rule.RuleInst.{RuleInst}
use Rattle.date_views.specs.declared.side.Side.{Side}
use Rattle.date_views.specs.Sides.{kind_of, side_of}
use Rattle.date_views.specs.Moves.{copy_rules}
use Rattle.date_views.specs.Sums.{sum_rules, difference_rules}
use Rattle.statement_rules.specs.Trees.{Tree, Just, Negated, Sum, Difference, Product, Quotient, tree_of, single}
use Rattle.statement_rules.specs.Names.{operand_side}

-- a comparison of two items or references links where it goes by bytes
abbrev pub compared : Origin → Side → Side → List RuleInst
compared at left right = if compares_values (kind_of left) (kind_of right) then [] else copy_rules at left right

abbrev pub compared_if : Origin → Option Side → Option Side → List RuleInst
compared_if at None right = []
compared_if at (Some left) None = []
compared_if at (Some left) (Some right) = compared at left right

-- two operands without an operator or a sign
abbrev pub related : Layout → Origin → Option Operand → Option Operand → List RuleInst
related layout at None right = []
related layout at (Some x) None = []
related layout at (Some x) (Some y) = compared_if at (operand_side layout x) (operand_side layout y)

abbrev pub condition_layer : Layout → Origin → CondForm-F (List RuleInst) (List RuleInst) → List RuleInst
condition_layer layout at (c.Relation left rel right) = related layout at (single (tree_of left)) (single (tree_of right))
condition_layer layout at (c.Class of numeric) = []
condition_layer layout at (c.Sign of sign) = []
condition_layer layout at (c.Named place) = []
condition_layer layout at (c.Not x) = x
condition_layer layout at (c.And x y) = x ++ y
condition_layer layout at (c.Or x y) = x ++ y

abbrev pub condition_links : Layout → Origin → Condition → List RuleInst
condition_links layout at = fold-Condition (List RuleInst) (List RuleInst) (condition_layer layout at) (λ x. x.form)

-- to = x + y
abbrev pub summed : Layout → Origin → Place → Option Operand → Option Operand → List RuleInst
summed layout at to None right = []
summed layout at to (Some x) None = []
summed layout at to (Some x) (Some y) = sum_rules at (operand_side layout x) (operand_side layout y) (side_of layout to)

-- to = x - y
abbrev pub subtracted : Layout → Origin → Place → Option Operand → Option Operand → List RuleInst
subtracted layout at to None right = []
subtracted layout at to (Some x) None = []
subtracted layout at to (Some x) (Some y) = difference_rules at (operand_side layout y) (operand_side layout x) (side_of layout to)

-- what is stored in a receiver: a sum and a difference of two operands link, and no other arithmetic does
abbrev pub value_links : Layout → Origin → Place → Tree → List RuleInst
value_links layout at to (Just x) = []
value_links layout at to (Negated t) = []
value_links layout at to (Sum s t) = summed layout at to (single s) (single t)
value_links layout at to (Difference s t) = subtracted layout at to (single s) (single t)
value_links layout at to (Product s t) = []
value_links layout at to (Quotient s t) = []
