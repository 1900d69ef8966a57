-- How MOVE, DISPLAY and ACCEPT are read.
use Rattle.std.specs.Prelude.{ℕ, ◌+◌, List, [], ◌∷◌, length, map, Option, Some, None, if◌then◌else◌}
use Rattle.cobol_syntax.specs.declared.place.Place.{Place}
use Rattle.cobol_syntax.specs.declared.expr.Operand.{Operand}
use Rattle.cobol_syntax.specs.declared.statement.Form.{Form}
use Rattle.cobol_syntax.specs.declared.statement.Form.TheVariants as form
use Rattle.cobol_syntax.specs.declared.statement.Register.{Register}
use Rattle.cobol_syntax.specs.declared.statement.Register.TheVariants as register_of
use Rattle.cond_reader.specs.declared.symbol.Symbol.TheVariants as s
use Rattle.cond_reader.specs.Reads.{Reader, chain, with_last}
use Rattle.cond_reader.specs.Places.{place}
use Rattle.cond_reader.specs.Exprs.{operand_at}
use Rattle.proc_reader.specs.declared.keyword.Keyword.TheVariants as k
use Rattle.proc_reader.specs.Source.{Source, has, after, after_symbol}
use Rattle.proc_reader.specs.Reading.{and_then, word_then}

module _ (t : Source) where
  unfoldable pub more_places : ℕ → List Place → ℕ → List Place × ℕ
  more_places level = chain (λ _. place t.text level) with_last (length t.text.kinds)

  unfoldable pub moved : ℕ → Reader (List Form)
  moved level i =
      and_then (operand_at t.text level i) (λ from to_at.
      word_then (after_symbol t s.To to_at) (λ j.
      and_then (place t.text level j) (λ first next.
      let places = more_places level (first ∷ []) next in Some (map (form.Move from) places.0, places.1))))

  unfoldable pub more_operands : ℕ → List Operand → ℕ → List Operand × ℕ
  more_operands level = chain (λ _. operand_at t.text level) with_last (length t.text.kinds)

  unfoldable pub shown : ℕ → Reader Form
  shown level i =
      and_then (operand_at t.text level i) (λ first next.
      let operands = more_operands level (first ∷ []) next in Some (form.Show operands.0, operands.1))

  unfoldable pub register : Reader Register
  register i =
      if has t k.Date i then Some (register_of.Date, i + 1)
      else (if has t k.Day i then Some (register_of.Day, i + 1)
      else (if has t k.Time i then Some (register_of.Time, i + 1) else None))

  unfoldable pub accepted : ℕ → Reader Form
  accepted level i =
      and_then (place t.text level i) (λ to from_at.
      word_then (after t k.From from_at) (λ j.
      and_then (register j) (λ from end. Some (form.Accept to from, end))))
