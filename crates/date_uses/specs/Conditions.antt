-- The uses of expressions and of conditions.
use Rattle.std.specs.Prelude.{Bool, List, [], ◌∷◌, ◌++◌, Option, Some, None}
use Rattle.cobol_syntax.specs.declared.place.Place.{Place}
use Rattle.cobol_syntax.specs.declared.expr.Operand.{Operand}
use Rattle.cobol_syntax.specs.declared.cond.Condition.{Condition, fold-Condition}
use Rattle.cobol_syntax.specs.declared.cond.CondForm.{CondForm-F}
use Rattle.cobol_syntax.specs.declared.cond.CondForm.TheOpen as c
use Rattle.cobol_syntax.specs.declared.cond.Rel.{Rel}
use Rattle.data_layout.specs.declared.item.Layout.{Layout}
use Rattle.statement_rules.specs.Trees.{Tree, Just, Negated, Sum, Difference, Product, Quotient, tree_of, single}
use Rattle.date_uses.specs.declared.uses.DateUse.{DateUse}
use Rattle.date_uses.specs.declared.uses.UseForm.{UseForm}
use Rattle.date_uses.specs.declared.uses.UseForm.TheVariants as forms
use Rattle.date_uses.specs.declared.places.Spot.{Spot}
use Rattle.date_uses.specs.Places.{use_at, place_used, operand_used, mention, operand_mention}

-- each place of an expression
abbrev pub tree_mentions : Layout → Spot → Tree → List DateUse
tree_mentions layout spot (Just x) = operand_mention layout spot x
tree_mentions layout spot (Negated t) = tree_mentions layout spot t
tree_mentions layout spot (Sum s t) = tree_mentions layout spot s ++ tree_mentions layout spot t
tree_mentions layout spot (Difference s t) = tree_mentions layout spot s ++ tree_mentions layout spot t
tree_mentions layout spot (Product s t) = tree_mentions layout spot s ++ tree_mentions layout spot t
tree_mentions layout spot (Quotient s t) = tree_mentions layout spot s ++ tree_mentions layout spot t

-- the two operands of an operator or a relation, if neither has an operator or a sign
abbrev pub both : Option Operand → Option Operand → Option (Operand × Operand)
both None right = None
both (Some x) None = None
both (Some x) (Some y) = Some (x, y)

abbrev pub pair : Tree → Tree → Option (Operand × Operand)
pair s t = both (single s) (single t)

abbrev pub compared : Layout → Spot → Rel → Option (Operand × Operand) → List DateUse
compared layout spot rel None = []
compared layout spot rel (Some two) = use_at spot (forms.Compare (operand_used layout two.0) rel (operand_used layout two.1)) ∷ []

abbrev pub relation_uses : Layout → Spot → Rel → Tree → Tree → List DateUse
relation_uses layout spot rel s t =
    compared layout spot rel (pair s t) ++ (tree_mentions layout spot s ++ tree_mentions layout spot t)

abbrev pub class_uses : Layout → Spot → Place → Bool → List DateUse
class_uses layout spot place numeric = use_at spot (forms.Class (place_used layout place) numeric) ∷ mention layout spot place

abbrev pub condition_layer : Layout → Spot → CondForm-F (List DateUse) (List DateUse) → List DateUse
condition_layer layout spot (c.Relation left rel right) = relation_uses layout spot rel (tree_of left) (tree_of right)
condition_layer layout spot (c.Class of numeric) = class_uses layout spot of numeric
condition_layer layout spot (c.Sign of sign) = tree_mentions layout spot (tree_of of)
condition_layer layout spot (c.Named place) = mention layout spot place
condition_layer layout spot (c.Not x) = x
condition_layer layout spot (c.And x y) = x ++ y
condition_layer layout spot (c.Or x y) = x ++ y

abbrev pub condition_uses : Layout → Spot → Condition → List DateUse
condition_uses layout spot = fold-Condition (List DateUse) (List DateUse) (condition_layer layout spot) (λ x. x.form)

-- to = x + y
abbrev pub sum : Layout → Place → Bool → Operand × Operand → UseForm
sum layout to size two = forms.Sum (place_used layout to) (operand_used layout two.0) (operand_used layout two.1) size

abbrev pub summed : Layout → Spot → Place → Bool → Option (Operand × Operand) → List DateUse
summed layout spot to size None = []
summed layout spot to size (Some two) = use_at spot (sum layout to size two) ∷ []

-- to = x - y
abbrev pub difference : Layout → Place → Bool → Operand × Operand → UseForm
difference layout to size two = forms.Difference (place_used layout to) (operand_used layout two.0) (operand_used layout two.1) size

abbrev pub subtracted : Layout → Spot → Place → Bool → Option (Operand × Operand) → List DateUse
subtracted layout spot to size None = []
subtracted layout spot to size (Some two) = use_at spot (difference layout to size two) ∷ []

-- what is stored in a receiver: only the sum and the difference of two operands is more than its places
abbrev pub value_uses : Layout → Spot → Place → Bool → Tree → List DateUse
value_uses layout spot to size (Just x) = []
value_uses layout spot to size (Negated t) = []
value_uses layout spot to size (Sum s t) = summed layout spot to size (pair s t)
value_uses layout spot to size (Difference s t) = subtracted layout spot to size (pair s t)
value_uses layout spot to size (Product s t) = []
value_uses layout spot to size (Quotient s t) = []
