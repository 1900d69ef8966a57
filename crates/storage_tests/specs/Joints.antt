-- AND and OR behind a first condition.
use Rattle.std.specs.Prelude.{ℕ, ◌<◌, Bool, not, List}
use Rattle.std.specs.List.{fold, AllByRecursion}
use Rattle.cobol_syntax.specs.declared.cond.Condition.{size-Condition}
use Rattle.cobol_syntax.specs.declared.cond.CondForm.{CondForm, fold-CondForm}
use Rattle.program_meaning.specs.Answer.{Answer, and_then}
use Rattle.program_meaning.specs.Compare.{and_also, or_else, test}
use Rattle.program_meaning.specs.Layout.{Layout}
use Rattle.program_meaning.specs.Storage.{Storage}
use Rattle.program_meaning.specs.Tree as tree
use Rattle.tree_reading.specs.Reading.{condition_layer, read_condition}
use Rattle.storage_tests.specs.declared.joint.Joint.{Joint}
use Rattle.storage_tests.specs.declared.joint.Operator.TheVariants as o
use Rattle.storage_tests.specs.declared.joint.Operator.{Operator}

-- what a condition asks
abbrev pub read_asked : CondForm → tree.Condition
read_asked = fold-CondForm tree.Condition tree.Condition condition_layer (λ x. x.form)

abbrev pub operated : Operator → tree.Condition → tree.Condition → tree.Condition
operated o.And right first = tree.And first right
operated o.Or right first = tree.Or first right

-- a first condition with AND or OR and a second one behind it
abbrev pub junction : Joint → tree.Condition → tree.Condition
junction j first = operated j.operator (read_condition j.right.now) first

-- a first condition with all that stands behind it, the joint next to it last
abbrev pub joined : List Joint → tree.Condition → tree.Condition
joined = fold (λ rest j. λ first. rest (junction j first)) (λ first. first)

-- whether the first condition decides
abbrev pub decides : Operator → Bool → Bool
decides o.And b = not b
decides o.Or b = b

-- the second conditions are less than a condition
abbrev pub AreLess : ℕ → List Joint → Type 0
AreLess size = AllByRecursion (λ j. size-Condition j.right.now < size)

-- what follows a first condition, by whether that holds. The second is read only where the first doesn't decide
abbrev pub decided : Operator → Bool → Answer Bool → Answer Bool
decided o.And = and_also
decided o.Or = or_else

module _ (layout : Layout) (store : Storage) where
  abbrev pub after_one : Joint → Bool → Answer Bool
  after_one j b = decided j.operator b (test layout store (read_condition j.right.now))

  -- what follows by all that stands behind it
  abbrev pub after : List Joint → Answer Bool → Answer Bool
  after = fold (λ rest j. λ a. rest (and_then a (after_one j))) (λ a. a)
