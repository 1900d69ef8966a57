-- How ADD, SUBTRACT, MULTIPLY, DIVIDE and COMPUTE are read. All of them are read as Compute.
use Rattle.std.specs.Prelude.{ℕ, ◌+◌, Bool, true, false, ◌&&◌, List, [], ◌∷◌, ◌++◌, length, map, Option, Some, None, if◌then◌else◌}
use Rattle.cobol_syntax.specs.declared.place.Place.{Place}
use Rattle.cobol_syntax.specs.declared.expr.Operand.{Operand}
use Rattle.cobol_syntax.specs.declared.expr.Operand.TheVariants as operand
use Rattle.cobol_syntax.specs.declared.expr.Expr.{Expr}
use Rattle.cobol_syntax.specs.declared.expr.Expr.TheVariants as e
use Rattle.cobol_syntax.specs.declared.statement.Form.{Form}
use Rattle.cobol_syntax.specs.declared.statement.Form.TheVariants as form
use Rattle.cobol_syntax.specs.declared.statement.Branch.{Branch}
use Rattle.cobol_syntax.specs.declared.statement.Statement.{Statement}
use Rattle.cond_reader.specs.declared.symbol.Symbol.TheVariants as s
use Rattle.cond_reader.specs.Reads.{Reader, chain, with_last}
use Rattle.cond_reader.specs.Places.{place}
use Rattle.cond_reader.specs.Exprs.{operand_at, expr}
use Rattle.proc_reader.specs.declared.keyword.Keyword.{Keyword}
use Rattle.proc_reader.specs.declared.keyword.Keyword.TheVariants as k
use Rattle.proc_reader.specs.declared.tree.Joining.{Joining}
use Rattle.proc_reader.specs.declared.tree.Joining.TheVariants as by
use Rattle.proc_reader.specs.declared.arithmetic.Receiver.{Receiver}
use Rattle.proc_reader.specs.declared.arithmetic.Receivers.{Receivers}
use Rattle.proc_reader.specs.declared.arithmetic.Computing.{Computing}
use Rattle.proc_reader.specs.Source.{Source, has, skip, after, after_symbol}
use Rattle.proc_reader.specs.Reading.{and_then, word_then}
use Rattle.proc_reader.specs.Trees.{joined, statement, numbered}

unfoldable pub one_more : Receivers → Receiver → Receivers
one_more all next = record { before = with_last all.before all.last; last = next }

-- what one receiver gets
unfoldable pub computed : Joining → Expr → Option Place → Option Branch → Receiver → Form
computed joining value rest size receiver =
    form.Compute receiver.place receiver.rounded (joined joining value (operand.Place receiver.place)) rest size

abbrev pub each_computed : Joining → Expr → List Receiver → List Form
each_computed joining value receivers = map (computed joining value None None) receivers

-- one statement a receiver; the size phrase stands on the last of them
unfoldable pub statements : ℕ → ℕ → ℕ → ℕ → Computing → Option Branch → List Statement
statements program i j first c size =
    numbered program i j first (each_computed c.joining c.value c.receivers.before)
    ++ statement program (first + length c.receivers.before) i j (computed c.joining c.value c.rest size c.receivers.last) ∷ []

unfoldable pub number_after_all : Computing → ℕ → ℕ
number_after_all c first = first + length c.receivers.before + 1

abbrev pub computing_of : Joining → Expr → Receivers → Computing
computing_of joining value all = record { joining = joining; value = value; receivers = all; rest = None }

abbrev pub is_single : List Receiver → Bool
is_single [] = true
is_single (r ∷ rs) = false

module _ (t : Source) where
  unfoldable pub receiver : ℕ → Reader Receiver
  receiver level i =
      and_then (place t.text level i) (λ p next. Some (record { place = p; rounded = has t k.Rounded next }, skip t k.Rounded next))

  unfoldable pub more_receivers : ℕ → Receivers → ℕ → Receivers × ℕ
  more_receivers level = chain (λ _. receiver level) one_more (length t.text.kinds)

  unfoldable pub receivers : ℕ → Reader Receivers
  receivers level i = and_then (receiver level i) (λ last next. Some (more_receivers level (record { before = []; last = last }) next))

  unfoldable pub more_summands : ℕ → Expr → ℕ → Expr × ℕ
  more_summands level = chain (λ _. operand_at t.text level) (joined by.Add) (length t.text.kinds)

  -- the sum of one or more operands, from the left
  unfoldable pub summed : ℕ → Reader Expr
  summed level i = and_then (operand_at t.text level i) (λ first next. Some (more_summands level (e.One first) next))

  unfoldable pub giving : ℕ → Expr → Reader Computing
  giving level value i =
      word_then (after t k.Giving i) (λ j.
      and_then (receivers level j) (λ all end. Some (computing_of by.Alone value all, end)))

  -- an operand before GIVING
  unfoldable pub second : ℕ → Reader Operand
  second level i = and_then (operand_at t.text level i) (λ x next. if has t k.Giving next then Some (x, next) else None)

  abbrev pub target_by : ℕ → Joining → Expr → ℕ → Option (Operand × ℕ) → Option (Computing × ℕ)
  target_by level joining value i (Some r) = giving level (joined joining value r.0) r.1
  target_by level joining value i None = and_then (receivers level i) (λ all end. Some (computing_of joining value all, end))

  -- an operand, GIVING and receivers, or receivers that enter the value themselves
  unfoldable pub target : ℕ → Joining → Expr → Reader Computing
  target level joining value i = target_by level joining value i (second level i)

  unfoldable pub added : ℕ → Reader Computing
  added level i =
      and_then (summed level i) (λ sum next.
      if has t k.Giving next then giving level sum next
      else word_then (after_symbol t s.To next) (λ to. target level by.Add sum to))

  unfoldable pub subtracted : ℕ → Reader Computing
  subtracted level i =
      and_then (summed level i) (λ sum next. word_then (after t k.From next) (λ from. target level by.Subtract sum from))

  unfoldable pub multiplied : ℕ → Reader Computing
  multiplied level i =
      and_then (operand_at t.text level i) (λ x next. word_then (after t k.By next) (λ j. target level by.Multiply (e.One x) j))

  -- REMAINDER and its item, where there is one receiver
  unfoldable pub remainder : ℕ → Computing → Reader Computing
  remainder level c i =
      if has t k.Remainder i && is_single c.receivers.before
      then and_then (place t.text level (i + 1)) (λ p end. Some (record c { rest = Some p }, end))
      else Some (c, i)

  unfoldable pub divided_by : ℕ → Expr → Reader Computing
  divided_by level value i =
      and_then (operand_at t.text level i) (λ x next.
      and_then (giving level (joined by.DivideBy value x) next) (λ c rest_at. remainder level c rest_at))

  abbrev pub into_by : ℕ → Expr → ℕ → Option (Operand × ℕ) → Option (Computing × ℕ)
  into_by level value i (Some r) = and_then (giving level (joined by.Divide value r.0) r.1) (λ c rest_at. remainder level c rest_at)
  into_by level value i None = and_then (receivers level i) (λ all end. Some (computing_of by.Divide value all, end))

  unfoldable pub divided_into : ℕ → Expr → Reader Computing
  divided_into level value i = into_by level value i (second level i)

  unfoldable pub divided : ℕ → Reader Computing
  divided level i =
      and_then (operand_at t.text level i) (λ x next.
      if has t k.Into next then divided_into level (e.One x) (next + 1)
      else word_then (after t k.By next) (λ j. divided_by level (e.One x) j))

  unfoldable pub set_to : ℕ → Reader Computing
  set_to level i =
      and_then (receivers level i) (λ all next.
      word_then (after_symbol t s.EqualSign next) (λ j.
      and_then (expr t.text level j) (λ value end. Some (computing_of by.Alone value all, end))))

  -- up to the size phrase
  unfoldable pub computing : ℕ → Reader Computing
  computing level i =
      if has t k.Add i then added level (i + 1)
      else (if has t k.Subtract i then subtracted level (i + 1)
      else (if has t k.Multiply i then multiplied level (i + 1)
      else (if has t k.Divide i then divided level (i + 1)
      else word_then (after t k.Compute i) (λ j. set_to level j))))

  unfoldable pub end_word : ℕ → Keyword
  end_word i =
      if has t k.Add i then k.EndAdd
      else (if has t k.Subtract i then k.EndSubtract
      else (if has t k.Multiply i then k.EndMultiply
      else (if has t k.Divide i then k.EndDivide else k.EndCompute)))

  -- the end of the statement that begins at i, where its parts end at j
  unfoldable pub end_of : ℕ → ℕ → ℕ
  end_of i j = skip t (end_word i) j
