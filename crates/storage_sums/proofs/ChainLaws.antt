-- Expressions along their first operands.
use Rattle.std.proofs.Common.{◌≡◌, ℕ, List, [], ◌∷◌, ◌++◌, refl, ap, sym, ◌∙◌, subst}
use Rattle.std.specs.List.{AllByRecursion}
use Rattle.program_meaning.specs.Answer.{Answer, Fault, Fails}
use Rattle.program_meaning.specs.Arithmetic.{Scaled, value, operand_value}
use Rattle.program_meaning.specs.Layout.{Layout}
use Rattle.program_meaning.specs.Storage.{Storage}
use Rattle.program_meaning.specs.Tree as tree
use Rattle.storage_places.specs.declared.fault.RunFault.{RunFault}
use Rattle.storage_places.specs.declared.fault.RunFault.TheVariants as fault
use Rattle.storage_places.specs.Meets.{MayMeet}
use Rattle.storage_sums.specs.declared.chain.Term.{Term}
use Rattle.storage_sums.specs.declared.chain.Term.TheVariants as term
use Rattle.storage_sums.specs.Chains.{operation, chained, operated, all_operated, IsBelow}

pub chained_last : (ts : List Term) (t : Term) (x : tree.Expr) → chained (ts ++ t ∷ []) x ≡ chained ts (operation t x)
chained_last [] t x = refl
chained_last (first ∷ ts) t x = ap (operation first) (chained_last ts t x)

pub below_last : (size : ℕ) (ts : List Term) (t : Term) → AllByRecursion (IsBelow size) ts → IsBelow size t → AllByRecursion (IsBelow size) (ts ++ t ∷ [])
below_last size [] t all below = (below, tt)
below_last size (first ∷ ts) t all below = (all.0, below_last size ts t all.1 below)

-- a first operand that was taken apart
pub chained_grows : (ts new : List Term) (t : Term) (first whole : tree.Expr) → new ≡ ts ++ t ∷ [] → whole ≡ operation t first → chained new first ≡ chained ts whole
chained_grows ts new t first whole grown is = ap (λ (xs : List Term). chained xs first) grown ∙ chained_last ts t first ∙ ap (chained ts) (sym is)

pub below_grows : (size : ℕ) (ts new : List Term) (t : Term) → new ≡ ts ++ t ∷ [] → AllByRecursion (IsBelow size) ts → IsBelow size t → AllByRecursion (IsBelow size) new
below_grows size ts new t grown all below = subst (AllByRecursion (IsBelow size)) (sym grown) (below_last size ts t all below)

pub below_front : (size : ℕ) (ts : List Term) (t : Term) → AllByRecursion (IsBelow size) (ts ++ t ∷ []) → AllByRecursion (IsBelow size) ts
below_front size [] t all = tt
below_front size (first ∷ ts) t all = (all.0, below_front size ts t all.1)

pub below_end : (size : ℕ) (ts : List Term) (t : Term) → AllByRecursion (IsBelow size) (ts ++ t ∷ []) → IsBelow size t
below_end size [] t all = all.0
below_end size (first ∷ ts) t all = below_end size ts t all.1

pub below_popped : (size : ℕ) (ts front : List Term) (t : Term) → ts ≡ front ++ t ∷ [] → AllByRecursion (IsBelow size) ts → AllByRecursion (IsBelow size) front × IsBelow size t
below_popped size ts front t popped all =
    let whole : AllByRecursion (IsBelow size) (front ++ t ∷ []) = subst (AllByRecursion (IsBelow size)) popped all in
    (below_front size front t whole, below_end size front t whole)

module _ (layout : Layout) (store : Storage) where
  value_operation : (t : Term) (x : tree.Expr) → value layout store (operation t x) ≡ operated layout store t (value layout store x)
  value_operation term.Minus x = refl
  value_operation (term.Add right) x = refl
  value_operation (term.Sub right) x = refl
  value_operation (term.Mul right) x = refl
  value_operation (term.Div right) x = refl

  pub value_chained : (ts : List Term) (x : tree.Expr) → value layout store (chained ts x) ≡ all_operated layout store ts (value layout store x)
  value_chained [] x = refl
  value_chained (t ∷ ts) x = value_operation t (chained ts x) ∙ ap (operated layout store t) (value_chained ts x)

  -- an expression that was taken apart
  pub value_whole : (ts : List Term) (o : tree.Operand) (whole : tree.Expr) → chained ts (tree.One o) ≡ whole → value layout store whole ≡ all_operated layout store ts (operand_value layout store o)
  value_whole ts o whole is = ap (value layout store) (sym is) ∙ value_chained ts (tree.One o)

  pub operated_last : (ts : List Term) (t : Term) (a : Answer Scaled) → all_operated layout store (ts ++ t ∷ []) a ≡ all_operated layout store ts (operated layout store t a)
  operated_last [] t a = refl
  operated_last (first ∷ ts) t a = ap (operated layout store first) (operated_last ts t a)

  pub value_popped : (ts front : List Term) (t : Term) (a whole : Answer Scaled) → ts ≡ front ++ t ∷ [] → whole ≡ all_operated layout store ts a → whole ≡ all_operated layout store front (operated layout store t a)
  value_popped ts front t a whole popped is = is ∙ ap (λ (xs : List Term). all_operated layout store xs a) popped ∙ operated_last front t a

  operation_fails : (t : Term) (e : Fault) → operated layout store t (Fails e) ≡ Fails e
  operation_fails term.Minus e = refl
  operation_fails (term.Add right) e = refl
  operation_fails (term.Sub right) e = refl
  operation_fails (term.Mul right) e = refl
  operation_fails (term.Div right) e = refl

  operations_fail : (ts : List Term) (e : Fault) → all_operated layout store ts (Fails e) ≡ Fails e
  operations_fail [] e = refl
  operations_fail (t ∷ ts) e = ap (operated layout store t) (operations_fail ts e) ∙ operation_fails t e

  fail_by : (ts : List Term) (a : Answer Scaled) (e : Fault) → a ≡ Fails e → all_operated layout store ts a ≡ Fails e
  fail_by ts a e h = ap (all_operated layout store ts) h ∙ operations_fail ts e

  -- a fault of the first operand is that of the whole
  pub fails_through : (ts : List Term) (a : Answer Scaled) (e : RunFault) → MayMeet a e → MayMeet (all_operated layout store ts a) e
  fails_through ts a fault.Data h = fail_by ts a _ h
  fails_through ts a fault.Range h = fail_by ts a _ h
  fails_through ts a fault.Zero h = fail_by ts a _ h
  fails_through ts a fault.Wide h = fail_by ts a _ h
  fails_through ts a fault.Memory h = h
