-- Conditions.
use Rattle.std.specs.Prelude.{ℕ, Option}
use Rattle.cobol_syntax.specs.declared.cond.Condition.{Condition, fold-Condition}
use Rattle.cobol_syntax.specs.declared.cond.CondForm.{CondForm-F}
use Rattle.cobol_syntax.specs.declared.cond.CondForm.TheOpen as c
use Rattle.data_layout.specs.declared.item.Layout.{Layout}
use Rattle.operand_uses.specs.declared.fault.UseFault.{UseFault}
use Rattle.operand_uses.specs.Order.{sooner, shape_fault}
use Rattle.operand_uses.specs.Places.{place_fault, named_fault}
use Rattle.operand_uses.specs.Exprs.{expr_fault, all_numbers, relation_right}

module _ (layout : Layout) (owner : ℕ) where
  abbrev pub condition_layer : CondForm-F (Option UseFault) (Option UseFault) → Option UseFault
  condition_layer (c.Relation left rel right) =
      sooner (expr_fault layout owner left) (sooner (expr_fault layout owner right) (shape_fault owner (relation_right layout left right)))
  condition_layer (c.Class of numeric) = place_fault layout owner of
  condition_layer (c.Sign of sign) = sooner (expr_fault layout owner of) (shape_fault owner (all_numbers layout of))
  condition_layer (c.Named place) = named_fault layout owner place
  condition_layer (c.Not x) = x
  condition_layer (c.And x y) = sooner x y
  condition_layer (c.Or x y) = sooner x y

  -- the first fault in a condition
  abbrev pub condition_fault : Condition → Option UseFault
  condition_fault = fold-Condition (Option UseFault) (Option UseFault) condition_layer (λ x. x.form)
