-- The grammar of words, lists and of the statements inside which no statement stands, one case for each production.
-- Each relation says that the words from one position to before another read as a tree.
use Rattle.std.specs.Prelude.{◌≡◌, ℕ, ◌+◌, Bool, true, false, List, [], ◌∷◌, map, Option, Some, None}
use Rattle.cobol_syntax.specs.declared.place.Place.{Place}
use Rattle.cobol_syntax.specs.declared.expr.Operand.{Operand}
use Rattle.cobol_syntax.specs.declared.expr.Expr.{Expr}
use Rattle.cobol_syntax.specs.declared.cond.Condition.{Condition}
use Rattle.cobol_syntax.specs.declared.statement.Control.{Control}
use Rattle.cobol_syntax.specs.declared.statement.Control.TheVariants as times
use Rattle.cobol_syntax.specs.declared.statement.Form.{Form}
use Rattle.cobol_syntax.specs.declared.statement.Form.TheVariants as form
use Rattle.cobol_syntax.specs.declared.statement.Mode.{Mode}
use Rattle.cobol_syntax.specs.declared.statement.NamePair.{NamePair}
use Rattle.cobol_syntax.specs.declared.statement.Register.{Register}
use Rattle.cobol_syntax.specs.declared.statement.Register.TheVariants as register_of
use Rattle.cobol_syntax.specs.declared.statement.Vary.{Vary}
use Rattle.cond_reader.specs.declared.symbol.Symbol.{Symbol}
use Rattle.cond_reader.specs.declared.symbol.Symbol.TheVariants as s
use Rattle.cond_reader.specs.Text.{symbol}
use Rattle.cond_reader.specs.Grammar.{Is, Name, IsPlace}
use Rattle.cond_reader.specs.ExprGrammar.{IsOperand, IsExpr}
use Rattle.cond_reader.specs.CondGrammar.{IsCondition}
use Rattle.cond_reader.specs.Longest.{IsLongest}
use Rattle.cond_reader.specs.Reads.{with_last}
use Rattle.proc_reader.specs.declared.files.Opened.{Opened}
use Rattle.proc_reader.specs.declared.keyword.Keyword.{Keyword}
use Rattle.proc_reader.specs.declared.keyword.Keyword.TheVariants as k
use Rattle.proc_reader.specs.Source.{Source, keyword}
use Rattle.proc_reader.specs.Files.{one_more, mode}

-- the longest reading from a position on
abbrev pub Longest : {A : Type 0} → (ℕ → ℕ → A → Type 0) → ℕ → ℕ → A → Type 0
Longest P i j x = IsLongest P i (Some (x, j))

-- as many items as there are: what is read before, and what with them
pub data Many {A B : Type 0} (Item : A → ℕ → ℕ → B → Type 0) (add : A → B → A) : A → ℕ → ℕ → A → Type 0 where
  stop : {a : A} {i : ℕ} → ((j : ℕ) (b : B) → Item a i j b → ⊥) → Many Item add a i i a
  more : {a c : A} {i m j : ℕ} {b : B} → Item a i m b → Many Item add (add a b) m j c → Many Item add a i j c

module _ (t : Source) where
  pub record Word (word : Keyword) (i j : ℕ) : Type 0 where
    pub is_word : keyword t i ≡ word
    pub next_is : j ≡ i + 1

  -- word?
  pub data MaybeWord (word : Keyword) : ℕ → ℕ → Type 0 where
    given : {i j : ℕ} → Word word i j → MaybeWord word i j
    absent : {i : ℕ} → (keyword t i ≡ word → ⊥) → MaybeWord word i i

  -- the same for a word of operands and conditions
  pub data MaybeMark (mark : Symbol) : ℕ → ℕ → Type 0 where
    marked : {i j : ℕ} → Is t.text mark i j → MaybeMark mark i j
    unmarked : {i : ℕ} → (symbol t.text i ≡ mark → ⊥) → MaybeMark mark i i

  abbrev pub PlaceAt : ℕ → ℕ → ℕ → Place → Type 0
  PlaceAt level = Longest (IsPlace t.text level)

  abbrev pub OperandAt : ℕ → ℕ → ℕ → Operand → Type 0
  OperandAt level = Longest (IsOperand t.text level)

  abbrev pub ExprAt : ℕ → ℕ → ℕ → Expr → Type 0
  ExprAt level = Longest (IsExpr t.text (IsOperand t.text) level)

  abbrev pub ConditionAt : ℕ → ℕ → ℕ → Condition → Type 0
  ConditionAt level = Longest (IsCondition t.text level)

  -- MOVE operand TO place+
  pub record Move (level i j : ℕ) (forms : List Form) : Type 0 where
    pub from_at : ℕ
    pub to_at : ℕ
    pub first_at : ℕ
    pub more_at : ℕ
    pub from : Operand
    pub first : Place
    pub places : List Place
    pub verb : Word k.Move i from_at
    pub from_read : OperandAt level from_at to_at from
    pub to_word : Is t.text s.To to_at first_at
    pub first_read : PlaceAt level first_at more_at first
    pub more_read : Many (λ _. PlaceAt level) with_last (first ∷ []) more_at j places
    pub is : forms ≡ map (form.Move from) places

  -- DISPLAY operand+
  pub record Show (level i j : ℕ) (f : Form) : Type 0 where
    pub first_at : ℕ
    pub more_at : ℕ
    pub first : Operand
    pub operands : List Operand
    pub verb : Word k.Display i first_at
    pub first_read : OperandAt level first_at more_at first
    pub more_read : Many (λ _. OperandAt level) with_last (first ∷ []) more_at j operands
    pub is : f ≡ form.Show operands

  -- DATE | DAY | TIME
  pub data RegisterAt : ℕ → ℕ → Register → Type 0 where
    date : {i j : ℕ} → Word k.Date i j → RegisterAt i j register_of.Date
    day : {i j : ℕ} → Word k.Day i j → RegisterAt i j register_of.Day
    time : {i j : ℕ} → Word k.Time i j → RegisterAt i j register_of.Time

  -- ACCEPT place FROM (DATE|DAY|TIME)
  pub record Accept (level i j : ℕ) (f : Form) : Type 0 where
    pub to_at : ℕ
    pub from_at : ℕ
    pub register_at : ℕ
    pub to : Place
    pub from : Register
    pub verb : Word k.Accept i to_at
    pub to_read : PlaceAt level to_at from_at to
    pub from_word : Word k.From from_at register_at
    pub from_read : RegisterAt register_at j from
    pub is : f ≡ form.Accept to from

  -- GO TO? name
  pub record GoTo (i j : ℕ) (f : Form) : Type 0 where
    pub to_at : ℕ
    pub name_at : ℕ
    pub name : List ℕ
    pub verb : Word k.Go i to_at
    pub to_word : MaybeMark s.To to_at name_at
    pub name_read : Name t.text name_at j name
    pub is : f ≡ form.GoTo name

  -- a file: after INPUT, OUTPUT or EXTEND, or in the mode so far
  pub data FileAt (so_far : Mode) : ℕ → ℕ → Mode × List ℕ → Type 0 where
    same : {i j : ℕ} {n : List ℕ} → mode t i ≡ None → Name t.text i j n → FileAt so_far i j (so_far, n)
    another : {i j : ℕ} {m : Mode} {n : List ℕ} → mode t i ≡ Some m → Name t.text (i + 1) j n → FileAt so_far i j (m, n)

  -- OPEN ((INPUT|OUTPUT|EXTEND) name+)+
  pub record Open (i j : ℕ) (forms : List Form) : Type 0 where
    pub mode_at : ℕ
    pub more_at : ℕ
    pub first_mode : Mode
    pub first : List ℕ
    pub all : Opened
    pub verb : Word k.Open i mode_at
    pub mode_read : mode t mode_at ≡ Some first_mode
    pub first_read : Name t.text (mode_at + 1) more_at first
    pub more_read : Many (λ so_far. FileAt so_far.mode) one_more (one_more (record { mode = first_mode; forms = [] }) (first_mode, first)) more_at j all
    pub is : forms ≡ all.forms

  -- CLOSE name+
  pub record Close (i j : ℕ) (forms : List Form) : Type 0 where
    pub first_at : ℕ
    pub more_at : ℕ
    pub first : List ℕ
    pub names : List (List ℕ)
    pub verb : Word k.Close i first_at
    pub first_read : Name t.text first_at more_at first
    pub more_read : Many (λ _. Name t.text) with_last (first ∷ []) more_at j names
    pub is : forms ≡ map form.Close names

  -- (word operand)?
  pub data MaybeOperand (level : ℕ) (word : Keyword) : ℕ → ℕ → Option Operand → Type 0 where
    no_operand : {i : ℕ} → (keyword t i ≡ word → ⊥) → MaybeOperand level word i i None
    operand : {i m j : ℕ} {x : Operand} → Word word i m → OperandAt level m j x → MaybeOperand level word i j (Some x)

  -- (word place)?
  pub data MaybePlace (level : ℕ) (word : Keyword) : ℕ → ℕ → Option Place → Type 0 where
    no_place : {i : ℕ} → (keyword t i ≡ word → ⊥) → MaybePlace level word i i None
    place : {i m j : ℕ} {x : Place} → Word word i m → PlaceAt level m j x → MaybePlace level word i j (Some x)

  -- operand (LINE|LINES)? | PAGE
  pub data LinesAt (level : ℕ) : ℕ → ℕ → Option Operand → Type 0 where
    page : {i j : ℕ} → Word k.Page i j → LinesAt level i j None
    lines : {i m j : ℕ} {x : Operand} → OperandAt level i m x → MaybeWord k.Line m j → LinesAt level i j (Some x)

  -- ((BEFORE|AFTER) ADVANCING? (operand (LINE|LINES)?|PAGE))?
  pub data AdvanceAt (level : ℕ) : ℕ → ℕ → Option Operand → Type 0 where
    no_advance : {i : ℕ} → (keyword t i ≡ k.Before → ⊥) → (keyword t i ≡ k.After → ⊥) → AdvanceAt level i i None
    before : {i m n j : ℕ} {x : Option Operand} → Word k.Before i m → MaybeWord k.Advancing m n → LinesAt level n j x → AdvanceAt level i j x
    after : {i m n j : ℕ} {x : Option Operand} → Word k.After i m → MaybeWord k.Advancing m n → LinesAt level n j x → AdvanceAt level i j x

  -- WRITE name (FROM operand)? ((BEFORE|AFTER) ADVANCING? (operand (LINE|LINES)?|PAGE))? END-WRITE?
  pub record Write (level i j : ℕ) (f : Form) : Type 0 where
    pub name_at : ℕ
    pub from_at : ℕ
    pub advance_at : ℕ
    pub end_at : ℕ
    pub name : List ℕ
    pub from : Option Operand
    pub advance : Option Operand
    pub verb : Word k.Write i name_at
    pub name_read : Name t.text name_at from_at name
    pub from_read : MaybeOperand level k.From from_at advance_at from
    pub advance_read : AdvanceAt level advance_at end_at advance
    pub end_word : MaybeWord k.EndWrite end_at j
    pub is : f ≡ form.Write name from advance

  -- name ((THRU|THROUGH) name)?
  pub data RangeAt : ℕ → ℕ → NamePair → Type 0 where
    single : {i j : ℕ} {n : List ℕ} → Name t.text i j n → (keyword t j ≡ k.Thru → ⊥) → RangeAt i j (record { first = n; last = n })
    thru : {i m l j : ℕ} {n p : List ℕ} → Name t.text i m n → Word k.Thru m l → Name t.text l j p → RangeAt i j (record { first = n; last = p })

  -- BEFORE | AFTER
  pub data SideAt : ℕ → ℕ → Bool → Type 0 where
    test_before : {i j : ℕ} → Word k.Before i j → SideAt i j false
    test_after : {i j : ℕ} → Word k.After i j → SideAt i j true

  -- (WITH? TEST (BEFORE|AFTER))?
  pub data TestAt : ℕ → ℕ → Bool → Type 0 where
    no_test : {i : ℕ} → (keyword t i ≡ k.With → ⊥) → (keyword t i ≡ k.Test → ⊥) → TestAt i i false
    test : {i m n j : ℕ} {is_after : Bool} → MaybeWord k.With i m → Word k.Test m n → SideAt n j is_after → TestAt i j is_after

  -- (VARYING place FROM operand BY operand)?
  pub data VaryAt (level : ℕ) : ℕ → ℕ → Option Vary → Type 0 where
    no_vary : {i : ℕ} → (keyword t i ≡ k.Varying → ⊥) → VaryAt level i i None
    vary : {i a b c d e j : ℕ} {item : Place} {from by : Operand}
        → Word k.Varying i a → PlaceAt level a b item → Word k.From b c → OperandAt level c d from → Word k.By d e → OperandAt level e j by
        → VaryAt level i j (Some (record { item = item; from = from; by = by }))

  -- operand TIMES
  pub record TimesAt (level i j : ℕ) (x : Operand) : Type 0 where
    pub times_at : ℕ
    pub count : OperandAt level i times_at x
    pub times_word : Word k.Times times_at j

  -- (operand TIMES | (WITH? TEST (BEFORE|AFTER))? (VARYING place FROM operand BY operand)? UNTIL cond)?
  pub data ControlAt (level : ℕ) : ℕ → ℕ → Control → Type 0 where
    once : {i : ℕ} → ((j : ℕ) (x : Operand) → TimesAt level i j x → ⊥) → ControlAt level i i times.Once
    counted : {i j : ℕ} {x : Operand} → TimesAt level i j x → ControlAt level i j (times.Times x)
    until : {i m n l j : ℕ} {is_after : Bool} {vary : Option Vary} {c : Condition}
        → TestAt i m is_after → VaryAt level m n vary → Word k.Until n l → ConditionAt level l j c → ControlAt level i j (times.Until is_after c vary)

  -- PERFORM name ((THRU|THROUGH) name)? control?
  pub record Perform (level i j : ℕ) (f : Form) : Type 0 where
    pub range_at : ℕ
    pub control_at : ℕ
    pub range : NamePair
    pub control : Control
    pub verb : Word k.Perform i range_at
    pub range_read : RangeAt range_at control_at range
    pub control_read : ControlAt level control_at j control
    pub is : f ≡ form.Perform (Some range) [] control

  -- the statements of which one form is read
  pub data Single (level : ℕ) : ℕ → ℕ → Form → Type 0 where
    perform : {i j : ℕ} {f : Form} → Perform level i j f → Single level i j f
    go_to : {i j : ℕ} {f : Form} → GoTo i j f → Single level i j f
    write : {i j : ℕ} {f : Form} → Write level i j f → Single level i j f
    accept : {i j : ℕ} {f : Form} → Accept level i j f → Single level i j f
    show : {i j : ℕ} {f : Form} → Show level i j f → Single level i j f
    stop_run : {i m j : ℕ} → Word k.Stop i m → Word k.Run m j → Single level i j form.Stop
    exit : {i j : ℕ} → Word k.Exit i j → Single level i j form.Nothing
    continue : {i j : ℕ} → Word k.Continue i j → Single level i j form.Nothing

  -- the statements inside which no statement stands, as the forms that are read from one text statement
  pub data Simple (level : ℕ) : ℕ → ℕ → List Form → Type 0 where
    move : {i j : ℕ} {fs : List Form} → Move level i j fs → Simple level i j fs
    open_files : {i j : ℕ} {fs : List Form} → Open i j fs → Simple level i j fs
    close_files : {i j : ℕ} {fs : List Form} → Close i j fs → Simple level i j fs
    single : {i j : ℕ} {f : Form} → Single level i j f → Simple level i j (f ∷ [])
