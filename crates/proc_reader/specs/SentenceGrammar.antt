-- The grammar of sentences, one case for each production.
-- Each relation says that the words from one place to before another read as a tree. A place is a position with the
-- number of the next statement, so that the numbers of the statements are part of the relation.
use Rattle.std.specs.Prelude.{◌≡◌, ℕ, zero, suc, ◌+◌, ◌-◌, ◌<◌, ◌⊎◌, Bool, true, false, List, [], ◌∷◌, ◌++◌, length, Option, Some, None}
use Rattle.cobol_syntax.specs.declared.place.Place.{Place}
use Rattle.cobol_syntax.specs.declared.expr.Operand.{Operand}
use Rattle.cobol_syntax.specs.declared.expr.Expr.{Expr}
use Rattle.cobol_syntax.specs.declared.expr.Expr.TheVariants as e
use Rattle.cobol_syntax.specs.declared.cond.Condition.{Condition}
use Rattle.cobol_syntax.specs.declared.statement.Branch.{Branch}
use Rattle.cobol_syntax.specs.declared.statement.Control.{Control}
use Rattle.cobol_syntax.specs.declared.statement.Form.{Form}
use Rattle.cobol_syntax.specs.declared.statement.Form.TheVariants as form
use Rattle.cobol_syntax.specs.declared.statement.Statement.{Statement}
use Rattle.cobol_syntax.specs.declared.program.Sentence.{Sentence}
use Rattle.cond_reader.specs.declared.symbol.Symbol.TheVariants as symbol
use Rattle.cond_reader.specs.Grammar.{Is, Name}
use Rattle.cond_reader.specs.Reads.{with_last}
use Rattle.proc_reader.specs.declared.arithmetic.Computing.{Computing}
use Rattle.proc_reader.specs.declared.evaluate.Group.{Group}
use Rattle.proc_reader.specs.declared.keyword.Keyword.{Keyword}
use Rattle.proc_reader.specs.declared.keyword.Keyword.TheVariants as k
use Rattle.proc_reader.specs.declared.spot.Spot.{Spot}
use Rattle.proc_reader.specs.Source.{Source, keyword}
use Rattle.proc_reader.specs.Classes.{begins}
use Rattle.proc_reader.specs.Reading.{spot}
use Rattle.proc_reader.specs.Trees.{statement, branch, numbered, equality, either}
use Rattle.proc_reader.specs.Arithmetic.{number_after_all, statements, end_word}
use Rattle.proc_reader.specs.Evaluates.{tied}
use Rattle.proc_reader.specs.Grammar.{Many, Word, MaybeWord, MaybePlace, OperandAt, ConditionAt, ControlAt, TimesAt, TestAt, Simple}
use Rattle.proc_reader.specs.ArithmeticGrammar.{ComputingAt}

module _ (t : Source) where
  -- what one statement reads as, which begins at a place, is ended before another and has one number
  abbrev pub one : Spot → ℕ → Form → List Statement
  one s end f = statement t.program s.number s.at end f ∷ []

  -- ON? SIZE ERROR
  pub record OnSize (i j : ℕ) : Type 0 where
    pub size_at : ℕ
    pub error_at : ℕ
    pub on_word : MaybeWord t k.On i size_at
    pub size_word : Word t k.Size size_at error_at
    pub error_word : Word t k.Error error_at j

  -- AT? END
  pub record AtEnd (i j : ℕ) : Type 0 where
    pub end_at : ℕ
    pub at_word : MaybeWord t k.At i end_at
    pub end_word : Word t k.End end_at j

  -- NOT and what follows it
  pub record Not (Head : ℕ → ℕ → Type 0) (i j : ℕ) : Type 0 where
    pub head_at : ℕ
    pub not_word : Is t.text symbol.Not i head_at
    pub head : Head head_at j

  -- TRUE | operand
  pub data SubjectAt (level : ℕ) : ℕ → ℕ → Option Expr → Type 0 where
    truth : {i j : ℕ} → Word t k.True i j → SubjectAt level i j None
    subject : {i j : ℕ} {x : Operand} → OperandAt t level i j x → SubjectAt level i j (Some (e.One x))

  -- WHEN (cond|operand): after TRUE a condition, else an operand that the subject equals
  pub data WhenAt (level : ℕ) : Option Expr → ℕ → ℕ → Condition → Type 0 where
    condition : {i m j : ℕ} {c : Condition} → Word t k.When i m → ConditionAt t level m j c → WhenAt level None i j c
    operand : {i m j : ℕ} {x : Expr} {y : Operand} → Word t k.When i m → OperandAt t level m j y → WhenAt level (Some x) i j (equality x y m j)

  -- (WHEN (cond|operand))+ where a body begins after them
  pub record WhensAt (level : ℕ) (x : Option Expr) (i j : ℕ) (test : Condition) : Type 0 where
    pub more_at : ℕ
    pub first : Condition
    pub first_read : WhenAt level x i more_at first
    pub more_read : Many (λ _. WhenAt level x) either first more_at j test
    pub body_next : (keyword t j ≡ k.Next) ⊎ (begins t j ≡ true)

  -- over what reads as a list of statements
  module _ (Lists : Spot → Spot → List Statement → Type 0) where
    -- statement+ | NEXT SENTENCE
    pub data Body : Spot → Spot → List Statement → Type 0 where
      next_sentence : {s : Spot} {m j : ℕ} → Word t k.Next s.at m → Word t k.Sentence m j → Body s (spot j (s.number + 1)) (one s j form.NextSentence)
      listed : {s last : Spot} {list : List Statement} → Lists s last list → Body s last list

    -- (ELSE body)?
    pub data Other : Spot → Spot → List Statement → Type 0 where
      no_other : {s : Spot} → (keyword t s.at ≡ k.Else → ⊥) → Other s s []
      other : {s last : Spot} {m : ℕ} {list : List Statement} → Word t k.Else s.at m → Body (spot m s.number) last list → Other s last list

    -- IF cond THEN? body (ELSE body)? END-IF?
    pub record If (level : ℕ) (s last : Spot) (list : List Statement) : Type 0 where
      pub test_at : ℕ
      pub then_at : ℕ
      pub body_at : ℕ
      pub other_spot : Spot
      pub end_spot : Spot
      pub test : Condition
      pub first : List Statement
      pub second : List Statement
      pub verb : Word t k.If s.at test_at
      pub test_read : ConditionAt t level test_at then_at test
      pub then_word : MaybeWord t k.Then then_at body_at
      pub first_read : Body (spot body_at (s.number + 1)) other_spot first
      pub second_read : Other other_spot end_spot second
      pub end_word : MaybeWord t k.EndIf end_spot.at last.at
      pub number_is : last.number ≡ end_spot.number
      pub is : list ≡ one s last.at (form.If test first second)

    -- a head and statements, if the head stands there
    pub data Phrase (Head : ℕ → ℕ → Type 0) : Spot → Spot → Option (List Statement) → Type 0 where
      no_phrase : {s : Spot} → ((j : ℕ) → Head s.at j → ⊥) → Phrase Head s s None
      phrase : {s last : Spot} {m : ℕ} {list : List Statement} → Head s.at m → Lists (spot m s.number) last list → Phrase Head s last (Some list)

    -- READ name NEXT? RECORD? (INTO place)? (AT? END statement+)? (NOT AT? END statement+)? END-READ?
    pub record Read (level : ℕ) (s last : Spot) (list : List Statement) : Type 0 where
      pub name_at : ℕ
      pub next_at : ℕ
      pub record_at : ℕ
      pub into_at : ℕ
      pub phrase_at : ℕ
      pub not_spot : Spot
      pub end_spot : Spot
      pub name : List ℕ
      pub into : Option Place
      pub first : Option (List Statement)
      pub second : Option (List Statement)
      pub verb : Word t k.Read s.at name_at
      pub name_read : Name t.text name_at next_at name
      pub next_word : MaybeWord t k.Next next_at record_at
      pub record_word : MaybeWord t k.Record record_at into_at
      pub into_read : MaybePlace t level k.Into into_at phrase_at into
      pub first_read : Phrase AtEnd (spot phrase_at (s.number + 1)) not_spot first
      pub second_read : Phrase (Not AtEnd) not_spot end_spot second
      pub end_word : MaybeWord t k.EndRead end_spot.at last.at
      pub number_is : last.number ≡ end_spot.number
      pub is : list ≡ one s last.at (form.Read name into (branch first second))

    -- PERFORM control? statement+ END-PERFORM
    pub record Inline (level : ℕ) (s last : Spot) (list : List Statement) : Type 0 where
      pub control_at : ℕ
      pub body_at : ℕ
      pub end_spot : Spot
      pub control : Control
      pub body : List Statement
      pub verb : Word t k.Perform s.at control_at
      pub control_read : ControlAt t level control_at body_at control
      pub body_read : Lists (spot body_at (s.number + 1)) end_spot body
      pub end_word : Word t k.EndPerform end_spot.at last.at
      pub number_is : last.number ≡ end_spot.number
      pub is : list ≡ one s last.at (form.Perform None body control)

    -- A group: its WHEN, and its body. Its IF begins at a position, and is numbered where the WHEN begin.
    pub record GroupAt (level : ℕ) (x : Option Expr) (start : ℕ) (s last : Spot) (g : Group) : Type 0 where
      pub body_at : ℕ
      pub whens_read : WhensAt level x s.at body_at g.test
      pub body_read : Body (spot body_at (s.number + 1)) last g.body
      pub at_is : g.at ≡ start
      pub number_is : g.number ≡ s.number

    -- as many further groups as there are; the IF of each begins at its first WHEN
    pub data Groups (level : ℕ) (x : Option Expr) : List Group → Spot → Spot → List Group → Type 0 where
      no_more : {gs : List Group} {s : Spot} → ((j : ℕ) (c : Condition) → WhensAt level x s.at j c → ⊥) → Groups level x gs s s gs
      one_more : {gs all : List Group} {s m last : Spot} {g : Group} → GroupAt level x s.at s m g → Groups level x (with_last gs g) m last all
          → Groups level x gs s last all

    -- (WHEN OTHER body)?
    pub data WhenOther : Spot → Spot → List Statement → Type 0 where
      no_when : {s : Spot} → ((m j : ℕ) → Word t k.When s.at m → Word t k.Other m j → ⊥) → WhenOther s s []
      when : {s last : Spot} {m j : ℕ} {list : List Statement} → Word t k.When s.at m → Word t k.Other m j → Body (spot j s.number) last list
          → WhenOther s last list

    -- EVALUATE (TRUE|operand) ((WHEN (cond|operand))+ body)+ (WHEN OTHER body)? END-EVALUATE?
    pub record Evaluate (level : ℕ) (s last : Spot) (list : List Statement) : Type 0 where
      pub subject_at : ℕ
      pub when_at : ℕ
      pub more_spot : Spot
      pub other_spot : Spot
      pub end_spot : Spot
      pub x : Option Expr
      pub first : Group
      pub groups : List Group
      pub other : List Statement
      pub verb : Word t k.Evaluate s.at subject_at
      pub subject_read : SubjectAt level subject_at when_at x
      pub first_read : GroupAt level x s.at (spot when_at s.number) more_spot first
      pub groups_read : Groups level x (first ∷ []) more_spot other_spot groups
      pub other_read : WhenOther other_spot end_spot other
      pub end_word : MaybeWord t k.EndEvaluate end_spot.at last.at
      pub number_is : last.number ≡ end_spot.number
      pub is : list ≡ tied t.program last.at groups other

    -- the statements that open a level for all that they hold
    pub data Nested (level : ℕ) : Spot → Spot → List Statement → Type 0 where
      if_read : {s last : Spot} {list : List Statement} → If level s last list → Nested level s last list
      evaluate : {s last : Spot} {list : List Statement} → Evaluate level s last list → Nested level s last list
      read : {s last : Spot} {list : List Statement} → Read level s last list → Nested level s last list
      perform : {s last : Spot} {list : List Statement} → Inline level s last list → Nested level s last list

    -- An arithmetic statement with its size phrases. A statement is read for each receiver, and the numbers of those
    -- in the phrases come after theirs.
    pub record Compute (level : ℕ) (s last : Spot) (list : List Statement) : Type 0 where
      pub size_at : ℕ
      pub not_spot : Spot
      pub end_spot : Spot
      pub computing : Computing
      pub first : Option (List Statement)
      pub second : Option (List Statement)
      pub computing_read : ComputingAt t level s.at size_at computing
      pub first_read : Phrase OnSize (spot size_at (number_after_all computing s.number)) not_spot first
      pub second_read : Phrase (Not OnSize) not_spot end_spot second
      pub end_words : MaybeWord t (end_word t s.at) end_spot.at last.at
      pub number_is : last.number ≡ end_spot.number
      pub is : list ≡ statements t.program s.at last.at s.number computing (branch first second)

    -- One text statement, where `Lists` are the lists inside a level. PERFORM of paragraphs has its place in `Simple`.
    pub data StatementAt (level : ℕ) : Spot → Spot → List Statement → Type 0 where
      simple : {s : Spot} {j : ℕ} {fs : List Form} → Simple t level s.at j fs
          → StatementAt level s (spot j (s.number + length fs)) (numbered t.program s.at j s.number fs)
      compute : {s last : Spot} {list : List Statement} → Compute level s last list → StatementAt level s last list
      nested : {s last : Spot} {list : List Statement} → 0 < level → Nested (level - 1) s last list → StatementAt level s last list

    -- as many further statements as begin
    pub data More (level : ℕ) : List Statement → Spot → Spot → List Statement → Type 0 where
      no_statement : {list : List Statement} {s : Spot} → begins t s.at ≡ false → More level list s s list
      one_statement : {list all read : List Statement} {s m last : Spot} → StatementAt level s m read → More level (list ++ read) m last all
          → More level list s last all

    -- statement+
    pub record StatementsAt (level : ℕ) (s last : Spot) (list : List Statement) : Type 0 where
      pub more_spot : Spot
      pub first : List Statement
      pub first_read : StatementAt level s more_spot first
      pub more_read : More level first more_spot last list

  -- what stands inside a level, where at most this many may be open
  abbrev pub Inside : ℕ → Spot → Spot → List Statement → Type 0
  Inside zero s last list = ⊥
  Inside (suc level) s last list = StatementsAt (Inside level) level s last list

  -- statement+ .
  pub record IsSentence (level : ℕ) (s last : Spot) (sentence : Sentence) : Type 0 where
    pub period_spot : Spot
    pub statements_read : StatementsAt (Inside level) level s period_spot sentence.statements
    pub period : Is t.text symbol.Period period_spot.at last.at
    pub number_is : last.number ≡ period_spot.number
