-- Programs as trees, without the positions of their words.
use Rattle.std.specs.Prelude.{ℕ, ℤ, Bool, List, Option}

abbrev pub Name : Type 0
Name = List ℕ

-- a subscript, or the start or the length of a reference: a number, or a name with its qualifiers
pub data Subscript : Type 0 where
  Literal : (number : ℕ) → Subscript
  Named : (names : List Name) → Subscript

-- the reference (start:length); without a length it goes to the end of the item
pub record Part : Type 0 where
  pub start : Subscript
  pub length : Option Subscript

-- a name with its qualifiers, its subscripts and its reference
pub record Place : Type 0 where
  pub names : List Name
  pub subs : List Subscript
  pub cut : Option Part

-- a place; a number literal, divided by 10 to the scale, with the digits that are written, leading zeros
-- included; a text literal; or a figurative constant, by the byte that it repeats
pub data Operand : Type 0 where
  At : (place : Place) → Operand
  Number : (number : ℤ) (scale digits : ℕ) → Operand
  Text : (bytes : List ℕ) → Operand
  Figure : (byte : ℕ) → Operand

-- an arithmetic expression
pub data Expr : Type 0 where
  One : (operand : Operand) → Expr
  Minus : (inner : Expr) → Expr
  Add : (left right : Expr) → Expr
  Sub : (left right : Expr) → Expr
  Mul : (left right : Expr) → Expr
  Div : (left right : Expr) → Expr

pub data Rel : Type 0 where
  Equal : Rel
  Less : Rel
  Greater : Rel

-- a condition. POSITIVE, NEGATIVE and ZERO are signs: how a value stands to 0
pub data Condition : Type 0 where
  Relation : (left : Expr) (rel : Rel) (right : Expr) → Condition
  Numeric : (place : Place) → Condition
  Alphabetic : (place : Place) → Condition
  Sign : (value : Expr) (rel : Rel) → Condition
  Holds : (place : Place) → Condition
  Not : (inner : Condition) → Condition
  And : (left right : Condition) → Condition
  Or : (left right : Condition) → Condition

-- VARYING item FROM from BY by
pub record Vary : Type 0 where
  pub item : Place
  pub from : Operand
  pub by : Operand

-- how often a PERFORM goes: with UNTIL, whether the test comes after the turn
pub data Control : Type 0 where
  Once : Control
  Times : (count : Operand) → Control
  Until : (after : Bool) (test : Condition) (vary : Option Vary) → Control

pub data Mode : Type 0 where
  Input : Mode
  Output : Mode
  Extend : Mode

pub data Register : Type 0 where
  Date : Register
  Day : Register
  Time : Register

-- a statement of a portfolio: its program, and its number in the text of the program
pub record StatementId : Type 0 where
  pub program : ℕ
  pub number : ℕ

-- statements, and lists of them. The two lists of a phrase are ON SIZE ERROR and NOT ON SIZE ERROR, or AT END and
-- NOT AT END. All arithmetic is a COMPUTE, whose `rest` is the receiver of REMAINDER
mutual
  pub data Statement : Type 0 where
    Stated : (id : StatementId) (form : Form) → Statement

  pub data Statements : Type 0 where
    Nil : Statements
    Cons : (first : Statement) (rest : Statements) → Statements

  pub data Phrase : Type 0 where
    Absent : Phrase
    Present : (met other : Statements) → Phrase

  -- what is performed: the paragraphs of a range, or the statements of an inline PERFORM
  pub data Performed : Type 0 where
    Through : (first last : Name) → Performed
    Inline : (body : Statements) → Performed

  pub data Form : Type 0 where
    Move : (from : Operand) (to : Place) → Form
    Compute : (to : Place) (rounded : Bool) (value : Expr) (rest : Option Place) (size : Phrase) → Form
    If : (test : Condition) (body other : Statements) → Form
    NextSentence : Form
    GoTo : (name : Name) → Form
    Stop : Form
    Nothing : Form
    Perform : (what : Performed) (control : Control) → Form
    Open : (mode : Mode) (file : Name) → Form
    Close : (file : Name) → Form
    Read : (file : Name) (into : Option Place) (end : Phrase) → Form
    Write : (name : Name) (from : Option Operand) → Form
    Accept : (to : Place) (from : Register) → Form
    Show : (operands : List Operand) → Form

-- a paragraph, or the name of a section, which has no sentences
pub record Paragraph : Type 0 where
  pub name : Name
  pub section : Bool
  pub sentences : List Statements
