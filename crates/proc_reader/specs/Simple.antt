-- How statements are read inside which no statement stands.
use Rattle.std.specs.Prelude.{ℕ, ◌+◌, List, [], ◌∷◌, length, Option, Some, None, if◌then◌else◌}
use Rattle.cobol_syntax.specs.declared.statement.Form.{Form}
use Rattle.cobol_syntax.specs.declared.statement.Form.TheVariants as form
use Rattle.cobol_syntax.specs.declared.statement.Statement.{Statement}
use Rattle.cond_reader.specs.declared.symbol.Symbol.TheVariants as s
use Rattle.cond_reader.specs.Reads.{Reader}
use Rattle.cond_reader.specs.Places.{name}
use Rattle.proc_reader.specs.declared.keyword.Keyword.TheVariants as k
use Rattle.proc_reader.specs.declared.spot.Spot.{Spot}
use Rattle.proc_reader.specs.Source.{Source, has, after, skip_symbol}
use Rattle.proc_reader.specs.Reading.{and_then, word_then}
use Rattle.proc_reader.specs.Trees.{numbered}
use Rattle.proc_reader.specs.Moves.{moved, shown, accepted}
use Rattle.proc_reader.specs.Files.{opened, closed, written}
use Rattle.proc_reader.specs.Performs.{performed}

module _ (t : Source) where
  unfoldable pub gone : Reader Form
  gone i = and_then (name t.text (skip_symbol t s.To i)) (λ n end. Some (form.GoTo n, end))

  unfoldable pub word_alone : Reader Form
  word_alone i =
      if has t k.Exit i then Some (form.Nothing, i + 1)
      else (if has t k.Continue i then Some (form.Nothing, i + 1)
      else word_then (after t k.Stop i) (λ run_at. word_then (after t k.Run run_at) (λ end. Some (form.Stop, end))))

  unfoldable pub single : ℕ → Reader Form
  single level i =
      if has t k.Perform i then performed t level (i + 1)
      else (if has t k.Go i then gone (i + 1)
      else (if has t k.Write i then written t level (i + 1)
      else (if has t k.Accept i then accepted t level (i + 1)
      else (if has t k.Display i then shown t level (i + 1)
      else word_alone i))))

  -- the forms of one text statement
  unfoldable pub simple : ℕ → Reader (List Form)
  simple level i =
      if has t k.Move i then moved t level (i + 1)
      else (if has t k.Open i then and_then (opened t (i + 1)) (λ all end. Some (all.forms, end))
      else (if has t k.Close i then closed t (i + 1)
      else and_then (single level i) (λ f end. Some (f ∷ [], end))))

  unfoldable pub simple_statements : ℕ → Spot → Option (List Statement × Spot)
  simple_statements level s =
      and_then (simple level s.at) (λ forms end.
      Some (numbered t.program s.at end s.number forms, record { at = end; number = s.number + length forms }))
