-- How sentences are read.
use Rattle.std.specs.Prelude.{ℕ, zero, suc, ◌+◌, ◌-◌, nat_lt, List, ◌++◌, length, Option, Some, None, if◌then◌else◌}
use Rattle.cobol_syntax.specs.declared.statement.Statement.{Statement}
use Rattle.cobol_syntax.specs.declared.program.Sentence.{Sentence}
use Rattle.cond_reader.specs.declared.symbol.Symbol.TheVariants as symbol
use Rattle.proc_reader.specs.declared.keyword.Keyword.TheVariants as k
use Rattle.proc_reader.specs.declared.simple.Class.{Class}
use Rattle.proc_reader.specs.declared.simple.Class.TheVariants as c
use Rattle.proc_reader.specs.declared.spot.Spot.{Spot}
use Rattle.proc_reader.specs.Source.{Source, keyword, has, after, after_symbol}
use Rattle.proc_reader.specs.Classes.{class_of, begins}
use Rattle.proc_reader.specs.Reading.{and_then, word_then, spot, Turn, over, goes_on, unread, repeated}
use Rattle.proc_reader.specs.Simple.{simple_statements}
use Rattle.proc_reader.specs.Performs.{is_inline}
use Rattle.proc_reader.specs.Nested.{Lists, if_statement, arithmetic_statements, read_statement, inline_statement}
use Rattle.proc_reader.specs.Evaluates.{evaluate_statement}

module _ (t : Source) where
  -- IF, EVALUATE or READ, where this many levels may be opened inside it
  unfoldable pub nested_statement : ℕ → Lists → Lists
  nested_statement level lists s =
      if has t k.If s.at then if_statement t level lists s
      else (if has t k.Evaluate s.at then evaluate_statement t level lists s else read_statement t level lists s)

  -- what reads inside a level, where one is left
  abbrev pub opening : ℕ → (ℕ → Lists → Lists) → Lists → Lists
  opening level read inside s = if nat_lt 0 level then read (level - 1) inside s else None

  unfoldable pub perform_statement : ℕ → Lists → Lists
  perform_statement level inside s =
      word_then (after t k.Perform s.at) (λ j.
      if is_inline t level j then opening level (inline_statement t) inside s else simple_statements t level s)

  abbrev pub statement_by : Class → ℕ → Lists → Lists
  statement_by c.Simple level inside s = simple_statements t level s
  statement_by c.Arithmetic level inside s = arithmetic_statements t level inside s
  statement_by c.Nested level inside s = opening level nested_statement inside s
  statement_by c.Perform level inside s = perform_statement level inside s
  statement_by c.Inner level inside s = None

  -- the statements of one text statement, where `inside` reads the lists inside a level
  unfoldable pub statement_at : ℕ → Lists → Lists
  statement_at level inside s = statement_by (class_of (keyword t s.at)) level inside s

  abbrev pub longer : List Statement → Option (List Statement × Spot) → Turn (List Statement)
  longer list None = unread
  longer list (Some r) = goes_on (list ++ r.0) r.1

  unfoldable pub statements_turn : ℕ → Lists → List Statement → Spot → Turn (List Statement)
  statements_turn level inside list s = if begins t s.at then longer list (statement_at level inside s) else over

  unfoldable pub more_statements : ℕ → Lists → List Statement → Spot → Option (List Statement × Spot)
  more_statements level inside = repeated (statements_turn level inside) (length t.text.kinds + 1)

  -- statement+
  unfoldable pub statements_by : ℕ → Lists → Lists
  statements_by level inside s = and_then (statement_at level inside s) (λ first next. more_statements level inside first next)

  -- the lists inside a level, where at most this many may be open
  unfoldable pub inside : ℕ → Lists
  inside zero = λ s. None
  inside (suc level) = statements_by level (inside level)

  unfoldable pub statements : ℕ → Lists
  statements level = statements_by level (inside level)

  -- statement+ and a period
  unfoldable pub sentence : ℕ → Spot → Option (Sentence × Spot)
  sentence level s =
      and_then (statements level s) (λ list last.
      word_then (after_symbol t symbol.Period last.at) (λ end. Some (record { statements = list }, spot end last.number)))
