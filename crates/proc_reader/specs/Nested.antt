-- How statements are read inside which statements stand, over the lists that stand inside.
use Rattle.std.specs.Prelude.{ℕ, ◌+◌, ◌-◌, Bool, nat_lt, List, [], ◌∷◌, Option, Some, None, if◌then◌else◌}
use Rattle.cobol_syntax.specs.declared.statement.Form.{Form}
use Rattle.cobol_syntax.specs.declared.statement.Form.TheVariants as form
use Rattle.cobol_syntax.specs.declared.statement.Branch.{Branch}
use Rattle.cobol_syntax.specs.declared.statement.Statement.{Statement}
use Rattle.cond_reader.specs.declared.symbol.Symbol.TheVariants as symbol
use Rattle.cond_reader.specs.Text.{sees}
use Rattle.cond_reader.specs.Conds.{condition_at}
use Rattle.proc_reader.specs.declared.keyword.Keyword.TheVariants as k
use Rattle.proc_reader.specs.declared.spot.Spot.{Spot}
use Rattle.proc_reader.specs.Source.{Source, has, skip, after}
use Rattle.proc_reader.specs.Reading.{and_then, word_then, spot}
use Rattle.proc_reader.specs.Trees.{statement, branch}
use Rattle.proc_reader.specs.Arithmetic.{computing, number_after_all, statements, end_of}
use Rattle.proc_reader.specs.Files.{file_name, destination}
use Rattle.proc_reader.specs.Performs.{control}

-- what reads a list of statements
abbrev pub Lists : Type 0
Lists = Spot → Option (List Statement × Spot)

-- the statements of a phrase that begins before a position, if there is one
unfoldable pub phrase : Lists → Option ℕ → Spot → Option (Option (List Statement) × Spot)
phrase lists None s = Some (None, s)
phrase lists (Some i) s = and_then (lists (spot i s.number)) (λ list next. Some (Some list, next))

-- A size phrase opens a level.
unfoldable pub size_phrase : ℕ → Lists → Option ℕ → Spot → Option (Option (List Statement) × Spot)
size_phrase level inside None s = Some (None, s)
size_phrase level inside (Some i) s = if nat_lt 0 level then phrase inside (Some i) s else None

module _ (t : Source) where
  -- the position after ON SIZE ERROR
  unfoldable pub on_size : ℕ → Option ℕ
  on_size i =
      let j = skip t k.On i in
      if has t k.Size j then (if has t k.Error (j + 1) then Some (j + 1 + 1) else None) else None

  unfoldable pub not_on_size : ℕ → Option ℕ
  not_on_size i = if sees t.text symbol.Not i then on_size (i + 1) else None

  -- the position after AT END
  unfoldable pub at_end : ℕ → Option ℕ
  at_end i = let j = skip t k.At i in if has t k.End j then Some (j + 1) else None

  unfoldable pub not_at_end : ℕ → Option ℕ
  not_at_end i = if sees t.text symbol.Not i then at_end (i + 1) else None

  -- one statement, which begins at a place and ends before a position, with the number after it
  unfoldable pub made : Spot → ℕ → ℕ → Form → List Statement × Spot
  made start end number f = (statement t.program start.number start.at end f ∷ [], spot end number)

  -- statement+ | NEXT SENTENCE
  unfoldable pub body : Lists → Lists
  body lists s =
      if has t k.Next s.at then word_then (after t k.Sentence (s.at + 1)) (λ end. Some (made s end (s.number + 1) form.NextSentence))
      else lists s

  -- (ELSE body)?
  unfoldable pub other : Lists → Lists
  other lists s = if has t k.Else s.at then body lists (spot (s.at + 1) s.number) else Some ([], s)

  -- IF cond THEN? body (ELSE body)? END-IF?
  unfoldable pub if_statement : ℕ → Lists → Lists
  if_statement level lists s =
      word_then (after t k.If s.at) (λ test_at.
      and_then (condition_at t.text level test_at) (λ test then_at.
      and_then (body lists (spot (skip t k.Then then_at) (s.number + 1))) (λ yes_list other_spot.
      and_then (other lists other_spot) (λ no_list last.
      Some (made s (skip t k.EndIf last.at) last.number (form.If test yes_list no_list))))))

  -- (ON? SIZE ERROR statement+)? (NOT ON? SIZE ERROR statement+)?
  unfoldable pub sizes : ℕ → Lists → Spot → Option (Option Branch × Spot)
  sizes level inside s =
      and_then (size_phrase level inside (on_size s.at) s) (λ first next.
      and_then (size_phrase level inside (not_on_size next.at) next) (λ second last. Some (branch first second, last)))

  unfoldable pub arithmetic_statements : ℕ → Lists → Lists
  arithmetic_statements level inside s =
      and_then (computing t level s.at) (λ c size_at.
      and_then (sizes level inside (spot size_at (number_after_all c s.number))) (λ size last.
      let end = end_of t s.at last.at in Some (statements t.program s.at end s.number c size, spot end last.number)))

  -- (AT? END statement+)? (NOT AT? END statement+)?
  unfoldable pub ends : Lists → Spot → Option (Option Branch × Spot)
  ends lists s =
      and_then (phrase lists (at_end s.at) s) (λ first next.
      and_then (phrase lists (not_at_end next.at) next) (λ second last. Some (branch first second, last)))

  -- READ name NEXT? RECORD? (INTO place)? (AT? END statement+)? (NOT AT? END statement+)? END-READ?
  unfoldable pub read_statement : ℕ → Lists → Lists
  read_statement level lists s =
      word_then (after t k.Read s.at) (λ name_at.
      and_then (file_name t name_at) (λ file into_at.
      and_then (destination t level into_at) (λ into phrase_at.
      and_then (ends lists (spot phrase_at (s.number + 1))) (λ phrases last.
      Some (made s (skip t k.EndRead last.at) last.number (form.Read file into phrases))))))

  -- PERFORM control? statement+ END-PERFORM
  unfoldable pub inline_statement : ℕ → Lists → Lists
  inline_statement level lists s =
      word_then (after t k.Perform s.at) (λ control_at.
      and_then (control t level control_at) (λ how body_at.
      and_then (lists (spot body_at (s.number + 1))) (λ list last.
      word_then (after t k.EndPerform last.at) (λ end.
      Some (made s end last.number (form.Perform None list how))))))
