-- How PERFORM is read, up to the statements of an inline one.
use Rattle.std.specs.Prelude.{ℕ, ◌+◌, ◌-◌, Bool, true, false, nat_lt, ◌||◌, [], Option, Some, None, if◌then◌else◌}
use Rattle.cobol_syntax.specs.declared.expr.Operand.{Operand}
use Rattle.cobol_syntax.specs.declared.statement.Form.{Form}
use Rattle.cobol_syntax.specs.declared.statement.Form.TheVariants as form
use Rattle.cobol_syntax.specs.declared.statement.NamePair.{NamePair}
use Rattle.cobol_syntax.specs.declared.statement.Control.{Control}
use Rattle.cobol_syntax.specs.declared.statement.Control.TheVariants as c
use Rattle.cobol_syntax.specs.declared.statement.Vary.{Vary}
use Rattle.cond_reader.specs.Reads.{Reader}
use Rattle.cond_reader.specs.Places.{name, place}
use Rattle.cond_reader.specs.Exprs.{operand_at}
use Rattle.cond_reader.specs.Conds.{condition_at}
use Rattle.proc_reader.specs.declared.keyword.Keyword.TheVariants as k
use Rattle.proc_reader.specs.Source.{Source, has, after}
use Rattle.proc_reader.specs.Classes.{begins}
use Rattle.proc_reader.specs.Reading.{and_then, word_then}

module _ (t : Source) where
  unfoldable pub range : Reader NamePair
  range i =
      and_then (name t.text i) (λ first next.
      if has t k.Thru next then and_then (name t.text (next + 1)) (λ last end. Some (record { first = first; last = last }, end))
      else Some (record { first = first; last = first }, next))

  unfoldable pub times : ℕ → Reader Operand
  times level i = and_then (operand_at t.text level i) (λ x next. if has t k.Times next then Some (x, next + 1) else None)

  unfoldable pub begins_until : ℕ → Bool
  begins_until i =
      if has t k.With i then true
      else (if has t k.Test i then true
      else (if has t k.Varying i then true else has t k.Until i))

  unfoldable pub test_side : Reader Bool
  test_side i = if has t k.After i then Some (true, i + 1) else word_then (after t k.Before i) (λ j. Some (false, j))

  -- whether the test comes after the body
  unfoldable pub test_after : Reader Bool
  test_after i =
      if has t k.With i then word_then (after t k.Test (i + 1)) (λ j. test_side j)
      else (if has t k.Test i then test_side (i + 1) else Some (false, i))

  unfoldable pub varying : ℕ → Reader (Option Vary)
  varying level i =
      if has t k.Varying i
      then and_then (place t.text level (i + 1)) (λ item from_at.
      word_then (after t k.From from_at) (λ from_next.
      and_then (operand_at t.text level from_next) (λ from by_at.
      word_then (after t k.By by_at) (λ by_next.
      and_then (operand_at t.text level by_next) (λ by end. Some (Some (record { item = item; from = from; by = by }), end))))))
      else Some (None, i)

  unfoldable pub until : ℕ → Reader Control
  until level i =
      and_then (test_after i) (λ is_after vary_at.
      and_then (varying level vary_at) (λ vary until_at.
      word_then (after t k.Until until_at) (λ j.
      and_then (condition_at t.text level j) (λ test end. Some (c.Until is_after test vary, end)))))

  abbrev pub times_or_once : ℕ → Option (Operand × ℕ) → Option (Control × ℕ)
  times_or_once i None = Some (c.Once, i)
  times_or_once i (Some r) = Some (c.Times r.0, r.1)

  unfoldable pub control : ℕ → Reader Control
  control level i = if begins_until i then until level i else times_or_once i (times level i)

  unfoldable pub performed : ℕ → Reader Form
  performed level i =
      and_then (range i) (λ pair control_at.
      and_then (control level control_at) (λ how end. Some (form.Perform (Some pair) [] how, end)))

  abbrev pub is_some : {A : Type 0} → Option A → Bool
  is_some None = false
  is_some (Some x) = true

  -- an operand before TIMES, in a level that can still be opened
  unfoldable pub counts : ℕ → ℕ → Bool
  counts level i = if nat_lt 0 level then is_some (times (level - 1) i) else false

  -- a control or a statement, and no paragraph or section
  unfoldable pub is_inline : ℕ → ℕ → Bool
  is_inline level i = if begins_until i then true else (if begins t i then true else counts level i)
