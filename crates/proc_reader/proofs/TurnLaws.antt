-- The turns of the two repetitions beside what they call.
use Rattle.std.specs.Prelude.{Result, Ok, Err, IfErr, IsErrAnd}
use Rattle.std.proofs.Common.{◌≡◌, ℕ, ◌++◌, Bool, true, false, List, Option, Some, None, refl, ap, sym, subst, ◌∙◌, if◌then◌else◌}
use Rattle.cobol_syntax.specs.declared.cond.Condition.{Condition}
use Rattle.cobol_syntax.specs.declared.expr.Expr.{Expr}
use Rattle.cobol_syntax.specs.declared.statement.Statement.{Statement}
use Rattle.cond_reader.specs.Reads.{with_last}
use Rattle.proc_reader.specs.declared.evaluate.Group.{Group}
use Rattle.proc_reader.specs.declared.spot.Spot.{Spot}
use Rattle.proc_reader.specs.declared.spot.Stop.{Stop}
use Rattle.proc_reader.specs.declared.spot.Stop.TheVariants as stop
use Rattle.proc_reader.specs.Source.{Source}
use Rattle.proc_reader.specs.Classes.{begins}
use Rattle.proc_reader.specs.Reading.{IsUnread, spot, Turn, over, goes_on, unread}
use Rattle.proc_reader.specs.Nested.{Lists}
use Rattle.proc_reader.specs.Evaluates.{heads, group, taken, group_by, groups_turn}
use Rattle.proc_reader.specs.Sentences.{statement_at, longer, statements_turn}

-- a stop that is handed on
pub handed_on : {T A B : Type 0} (r : Option A) (s : Option B) (result : Result T Stop) (e : Stop) → IsErrAnd result (λ f. f ≡ e) → IsUnread r e → (r ≡ None → s ≡ None) → IfErr result (IsUnread s)
handed_on r s (Ok x) e h unread_part next = tt
handed_on r s (Err f) stop.Unread h unread_part next = subst (λ (x : Stop). IsUnread s x) (sym h) (next unread_part)
handed_on r s (Err f) stop.Memory h unread_part next = subst (λ (x : Stop). IsUnread s x) (sym h) tt

module _ (t : Source) (level : ℕ) (lists : Lists) where
  module _ (x : Option Expr) (gs : List Group) (s : Spot) where
    pub groups_over : heads t level x s.at ≡ None → groups_turn t level lists x gs s ≡ over
    unfolding groups_turn
    groups_over e = ap (λ r. group_by t lists gs s r) e

    pub groups_on : (test : Condition) (m : ℕ) (g : Group) (next : Spot) → heads t level x s.at ≡ Some (test, m) → group t lists s.at test (spot m s.number) ≡ Some (g, next)
        → groups_turn t level lists x gs s ≡ goes_on (with_last gs g) next
    unfolding groups_turn
    groups_on test m g next e is = ap (λ r. group_by t lists gs s r) e ∙ ap (λ r. taken t gs r) is

    pub groups_unread : (test : Condition) (m : ℕ) → heads t level x s.at ≡ Some (test, m) → group t lists s.at test (spot m s.number) ≡ None
        → groups_turn t level lists x gs s ≡ unread
    unfolding groups_turn
    groups_unread test m e is = ap (λ r. group_by t lists gs s r) e ∙ ap (λ r. taken t gs r) is

  module _ (list : List Statement) (s : Spot) where
    pub statements_over : begins t s.at ≡ false → statements_turn t level lists list s ≡ over
    unfolding statements_turn
    statements_over e = ap (λ (b : Bool). if b then longer t list (statement_at t level lists s) else over) e

    pub statements_on : (more : List Statement) (next : Spot) → begins t s.at ≡ true → statement_at t level lists s ≡ Some (more, next)
        → statements_turn t level lists list s ≡ goes_on (list ++ more) next
    unfolding statements_turn
    statements_on more next e is = ap (λ (b : Bool). if b then longer t list (statement_at t level lists s) else over) e ∙ ap (λ r. longer t list r) is

    pub statements_unread : begins t s.at ≡ true → statement_at t level lists s ≡ None → statements_turn t level lists list s ≡ unread
    unfolding statements_turn
    statements_unread e is = ap (λ (b : Bool). if b then longer t list (statement_at t level lists s) else over) e ∙ ap (λ r. longer t list r) is
