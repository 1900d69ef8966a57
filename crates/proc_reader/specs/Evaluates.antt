-- How EVALUATE is read, as a chain of IF.
use Rattle.std.specs.Prelude.{ℕ, ◌+◌, Bool, true, List, [], ◌∷◌, length, Option, Some, None, if◌then◌else◌}
use Rattle.cobol_syntax.specs.declared.expr.Expr.{Expr}
use Rattle.cobol_syntax.specs.declared.expr.Expr.TheVariants as e
use Rattle.cobol_syntax.specs.declared.cond.Condition.{Condition}
use Rattle.cobol_syntax.specs.declared.statement.Form.TheVariants as form
use Rattle.cobol_syntax.specs.declared.statement.Statement.{Statement}
use Rattle.cond_reader.specs.Reads.{Reader, chain, with_last}
use Rattle.cond_reader.specs.Exprs.{operand_at}
use Rattle.cond_reader.specs.Conds.{condition_at}
use Rattle.proc_reader.specs.declared.evaluate.Group.{Group}
use Rattle.proc_reader.specs.declared.keyword.Keyword.TheVariants as k
use Rattle.proc_reader.specs.declared.spot.Spot.{Spot}
use Rattle.proc_reader.specs.Source.{Source, has, skip, after}
use Rattle.proc_reader.specs.Classes.{begins}
use Rattle.proc_reader.specs.Reading.{and_then, word_then, spot, Turn, over, goes_on, unread, repeated}
use Rattle.proc_reader.specs.Trees.{statement, equality, either}
use Rattle.proc_reader.specs.Nested.{Lists, body}

-- the IF of a group, with what stands in its ELSE
unfoldable pub if_of : ℕ → ℕ → Group → List Statement → Statement
if_of program end g other = statement program g.number g.at end (form.If g.test g.body other)

-- the groups as a chain of IF
abbrev pub tied : ℕ → ℕ → List Group → List Statement → List Statement
tied program end [] other = other
tied program end (g ∷ gs) other = if_of program end g (tied program end gs other) ∷ []

module _ (t : Source) where
  -- TRUE | operand
  unfoldable pub subject : ℕ → Reader (Option Expr)
  subject level i =
      if has t k.True i then Some (None, i + 1) else and_then (operand_at t.text level i) (λ x next. Some (Some (e.One x), next))

  -- after TRUE a condition, else an operand that the subject equals
  unfoldable pub choice : ℕ → Option Expr → Reader Condition
  choice level None i = condition_at t.text level i
  choice level (Some x) i = and_then (operand_at t.text level i) (λ y next. Some (equality x y i next, next))

  unfoldable pub when : ℕ → Option Expr → Reader Condition
  when level x i = if has t k.When i then choice level x (i + 1) else None

  unfoldable pub more_whens : ℕ → Option Expr → Condition → ℕ → Condition × ℕ
  more_whens level x = chain (λ _. when level x) either (length t.text.kinds)

  unfoldable pub begins_body : ℕ → Bool
  begins_body i = if has t k.Next i then true else begins t i

  -- (WHEN x)+ where a body begins after them
  unfoldable pub heads : ℕ → Option Expr → Reader Condition
  heads level x i =
      and_then (when level x i) (λ first next.
      let tests = more_whens level x first next in if begins_body tests.1 then Some tests else None)

  -- a group whose IF begins at a position, and whose body begins at a place, where the IF is numbered
  unfoldable pub group : Lists → ℕ → Condition → Spot → Option (Group × Spot)
  group lists i test s =
      and_then (body t lists (spot s.at (s.number + 1))) (λ list next.
      Some (record { test = test; at = i; number = s.number; body = list }, next))

  abbrev pub taken : List Group → Option (Group × Spot) → Turn (List Group)
  taken gs None = unread
  taken gs (Some r) = goes_on (with_last gs r.0) r.1

  abbrev pub group_by : Lists → List Group → Spot → Option (Condition × ℕ) → Turn (List Group)
  group_by lists gs s None = over
  group_by lists gs s (Some r) = taken gs (group lists s.at r.0 (spot r.1 s.number))

  unfoldable pub groups_turn : ℕ → Lists → Option Expr → List Group → Spot → Turn (List Group)
  groups_turn level lists x gs s = group_by lists gs s (heads level x s.at)

  unfoldable pub more_groups : ℕ → Lists → Option Expr → List Group → Spot → Option (List Group × Spot)
  more_groups level lists x = repeated (groups_turn level lists x) (length t.text.kinds + 1)

  -- (WHEN OTHER body)?
  unfoldable pub when_other : Lists → Lists
  when_other lists s =
      if has t k.When s.at then (if has t k.Other (s.at + 1) then body t lists (spot (s.at + 1 + 1) s.number) else Some ([], s))
      else Some ([], s)

  -- EVALUATE (TRUE|operand) ((WHEN (cond|operand))+ body)+ (WHEN OTHER body)? END-EVALUATE?
  unfoldable pub evaluate_statement : ℕ → Lists → Lists
  evaluate_statement level lists s =
      word_then (after t k.Evaluate s.at) (λ subject_at.
      and_then (subject level subject_at) (λ x when_at.
      and_then (heads level x when_at) (λ test body_at.
      and_then (group lists s.at test (spot body_at s.number)) (λ first next.
      and_then (more_groups level lists x (first ∷ []) next) (λ groups other_spot.
      and_then (when_other lists other_spot) (λ other last.
      let end = skip t k.EndEvaluate last.at in Some (tied t.program end groups other, spot end last.number)))))))
