-- How OPEN, CLOSE and WRITE are read, and READ up to its phrases.
use Rattle.std.specs.Prelude.{ℕ, ◌+◌, List, [], ◌∷◌, length, map, Option, Some, None, if◌then◌else◌}
use Rattle.cobol_syntax.specs.declared.place.Place.{Place}
use Rattle.cobol_syntax.specs.declared.expr.Operand.{Operand}
use Rattle.cobol_syntax.specs.declared.statement.Form.{Form}
use Rattle.cobol_syntax.specs.declared.statement.Form.TheVariants as form
use Rattle.cobol_syntax.specs.declared.statement.Mode.{Mode}
use Rattle.cobol_syntax.specs.declared.statement.Mode.TheVariants as mode_of
use Rattle.cond_reader.specs.Reads.{Reader, chain, with_last}
use Rattle.cond_reader.specs.Places.{name, place}
use Rattle.cond_reader.specs.Exprs.{operand_at}
use Rattle.proc_reader.specs.declared.files.Opened.{Opened}
use Rattle.proc_reader.specs.declared.keyword.Keyword.TheVariants as k
use Rattle.proc_reader.specs.Source.{Source, has, skip}
use Rattle.proc_reader.specs.Reading.{and_then}

-- one more file of this mode
unfoldable pub one_more : Opened → Mode × List ℕ → Opened
one_more opened next = record { mode = next.0; forms = with_last opened.forms (form.Open next.0 next.1) }

module _ (t : Source) where
  unfoldable pub mode : ℕ → Option Mode
  mode i =
      if has t k.Input i then Some mode_of.Input
      else (if has t k.Output i then Some mode_of.Output
      else (if has t k.Extend i then Some mode_of.Extend else None))

  abbrev pub file_by : Mode → ℕ → Option Mode → Option ((Mode × List ℕ) × ℕ)
  file_by so_far i None = and_then (name t.text i) (λ file next. Some ((so_far, file), next))
  file_by so_far i (Some m) = and_then (name t.text (i + 1)) (λ file next. Some ((m, file), next))

  -- a file and its mode, which is the one so far unless another is written
  unfoldable pub file_of_mode : Mode → Reader (Mode × List ℕ)
  file_of_mode so_far i = file_by so_far i (mode i)

  unfoldable pub more_opened : Opened → ℕ → Opened × ℕ
  more_opened = chain (λ opened. file_of_mode opened.mode) one_more (length t.text.kinds)

  abbrev pub opened_by : ℕ → Option Mode → Option (Opened × ℕ)
  opened_by i None = None
  opened_by i (Some m) =
      and_then (name t.text (i + 1)) (λ file next. Some (more_opened (one_more (record { mode = m; forms = [] }) (m, file)) next))

  unfoldable pub opened : Reader Opened
  opened i = opened_by i (mode i)

  unfoldable pub more_files : List (List ℕ) → ℕ → List (List ℕ) × ℕ
  more_files = chain (λ _. name t.text) with_last (length t.text.kinds)

  unfoldable pub closed : Reader (List Form)
  closed i =
      and_then (name t.text i) (λ first next.
      let files = more_files (first ∷ []) next in Some (map form.Close files.0, files.1))

  unfoldable pub source : ℕ → Reader (Option Operand)
  source level i =
      if has t k.From i then and_then (operand_at t.text level (i + 1)) (λ x end. Some (Some x, end)) else Some (None, i)

  unfoldable pub lines : ℕ → Reader (Option Operand)
  lines level i =
      if has t k.Page i then Some (None, i + 1)
      else and_then (operand_at t.text level i) (λ x next. Some (Some x, skip t k.Line next))

  unfoldable pub advance : ℕ → Reader (Option Operand)
  advance level i =
      if has t k.Before i then lines level (skip t k.Advancing (i + 1))
      else (if has t k.After i then lines level (skip t k.Advancing (i + 1)) else Some (None, i))

  unfoldable pub written : ℕ → Reader Form
  written level i =
      and_then (name t.text i) (λ n from_at.
      and_then (source level from_at) (λ from advance_at.
      and_then (advance level advance_at) (λ lines_on next. Some (form.Write n from lines_on, skip t k.EndWrite next))))

  unfoldable pub destination : ℕ → Reader (Option Place)
  destination level i =
      if has t k.Into i then and_then (place t.text level (i + 1)) (λ p end. Some (Some p, end)) else Some (None, i)

  -- with NEXT and RECORD after it or without
  unfoldable pub file_name : Reader (List ℕ)
  file_name i = and_then (name t.text i) (λ file next. Some (file, skip t k.Record (skip t k.Next next)))
