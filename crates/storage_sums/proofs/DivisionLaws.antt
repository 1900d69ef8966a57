-- Divisions with a REMAINDER, and outcomes with a size phrase.
use Rattle.std.proofs.Common.{◌≡◌, Bool, true, false, Option, Some, None, Result, Ok, Err, IfOk, IfErr, ap, ◌∙◌, refl}
use Rattle.cobol_syntax.specs.declared.program.Program.{Program}
use Rattle.data_layout.specs.declared.item.Layout as declared
use Rattle.exact_arithmetic.specs.declared.outcome.Outcome.{Outcome}
use Rattle.exact_arithmetic.specs.Answers.{read_outcome}
use Rattle.layout_reading.specs.Reading.{read_layout}
use Rattle.place_table.specs.Tables.{Gave, Failed}
use Rattle.program_meaning.specs.Answer.{Answer, and_then}
use Rattle.program_meaning.specs.Arithmetic as meant
use Rattle.program_meaning.specs.Layout.{Layout}
use Rattle.program_meaning.specs.Number.{NumForm}
use Rattle.program_meaning.specs.Storage.{Storage}
use Rattle.program_meaning.specs.Tree as tree
use Rattle.storage_places.specs.declared.fault.RunFault.{RunFault}
use Rattle.storage_places.specs.declared.fault.RunFault.TheVariants as fault
use Rattle.storage_sums.specs.Chains.{division}
use Rattle.storage_sums.specs.Faults.{IsOutcome, phrased}

-- the first or the second of what may be there
abbrev first_or : tree.Expr → Option (tree.Expr × tree.Expr) → tree.Expr
first_or x None = x
first_or x (Some both) = both.0

abbrev second_or : tree.Expr → Option (tree.Expr × tree.Expr) → tree.Expr
second_or x None = x
second_or x (Some both) = both.1

module _ (layout : Layout) (store : Storage) where
  pub computed_division : (rounded : Bool) (form : NumForm) (phrase : Bool) (x : tree.Expr) (p : tree.Place) (a b : tree.Expr) → division x ≡ Some (a, b)
      → meant.computed layout store rounded form phrase x (Some p) ≡ and_then (meant.receiver_form layout store p) (λ rest_form. meant.division_outcome layout store rounded form rest_form phrase a b)
  computed_division rounded form phrase (tree.One o) p a b is = cc
  computed_division rounded form phrase (tree.Minus x) p a b is = cc
  computed_division rounded form phrase (tree.Add x y) p a b is = cc
  computed_division rounded form phrase (tree.Sub x y) p a b is = cc
  computed_division rounded form phrase (tree.Mul x y) p a b is = cc
  computed_division rounded form phrase (tree.Div x y) p a b is =
      let left : x ≡ a = ap (first_or x) is in
      let right : y ≡ b = ap (second_or y) is in
      ap (λ z. and_then {B = meant.Outcome} (meant.receiver_form layout store p) (λ rest_form. meant.division_outcome layout store rounded form rest_form phrase z y)) left
      ∙ ap (λ z. and_then {B = meant.Outcome} (meant.receiver_form layout store p) (λ rest_form. meant.division_outcome layout store rounded form rest_form phrase a z)) right

  pub computed_simple : (rounded : Bool) (form : NumForm) (phrase : Bool) (x : tree.Expr) (p : tree.Place) → division x ≡ None
      → meant.computed layout store rounded form phrase x (Some p) ≡ meant.simple_outcome layout store rounded form x
  computed_simple rounded form phrase (tree.One o) p is = refl
  computed_simple rounded form phrase (tree.Minus x) p is = refl
  computed_simple rounded form phrase (tree.Add x y) p is = refl
  computed_simple rounded form phrase (tree.Sub x y) p is = refl
  computed_simple rounded form phrase (tree.Mul x y) p is = refl
  computed_simple rounded form phrase (tree.Div x y) p is = cc

  pub phrased_outcome : (phrase : Bool) (a : Answer meant.Outcome) (r : Result Outcome RunFault) → IsOutcome a r → IsOutcome (meant.by_phrase layout store phrase a) (phrased phrase r)
  phrased_outcome true a (Ok o) is = ap (meant.by_phrase layout store true) is
  phrased_outcome false a (Ok o) is = ap (meant.by_phrase layout store false) is
  phrased_outcome true a (Err fault.Data) is = ap (meant.by_phrase layout store true) is
  phrased_outcome false a (Err fault.Data) is = ap (meant.by_phrase layout store false) is
  phrased_outcome true a (Err fault.Range) is = ap (meant.by_phrase layout store true) is
  phrased_outcome false a (Err fault.Range) is = ap (meant.by_phrase layout store false) is
  phrased_outcome true a (Err fault.Zero) is = ap (meant.by_phrase layout store true) is
  phrased_outcome false a (Err fault.Zero) is = ap (meant.by_phrase layout store false) is
  phrased_outcome true a (Err fault.Wide) is = ap (meant.by_phrase layout store true) is
  phrased_outcome false a (Err fault.Wide) is = ap (meant.by_phrase layout store false) is
  phrased_outcome true a (Err fault.Memory) is = tt
  phrased_outcome false a (Err fault.Memory) is = tt

-- an outcome in all programs with a layout
abbrev pub AreOutcome : declared.Layout → (Layout → Answer meant.Outcome) → Result Outcome RunFault → Type 0
AreOutcome layout meaning r = (program : Program) → IsOutcome (meaning (read_layout program layout)) r

pub outcome_by : (layout : declared.Layout) (meaning : Layout → Answer meant.Outcome) (r : Result Outcome RunFault) → IfOk r (λ o. Gave layout meaning (read_outcome o)) → IfErr r (Failed layout meaning) → AreOutcome layout meaning r
outcome_by layout meaning (Ok o) ok err = ok
outcome_by layout meaning (Err e) ok err = err

pub outcome_gave : (layout : declared.Layout) (meaning : Layout → Answer meant.Outcome) (r : Result Outcome RunFault) → AreOutcome layout meaning r → IfOk r (λ o. Gave layout meaning (read_outcome o))
outcome_gave layout meaning (Ok o) is = is
outcome_gave layout meaning (Err e) is = tt

pub outcome_failed : (layout : declared.Layout) (meaning : Layout → Answer meant.Outcome) (r : Result Outcome RunFault) → AreOutcome layout meaning r → IfErr r (Failed layout meaning)
outcome_failed layout meaning (Ok o) is = tt
outcome_failed layout meaning (Err e) is = is
