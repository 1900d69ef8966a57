-- When a step of a program is tame.
use Rattle.std.specs.Prelude.{◌≡◌, ℕ, ◌≤◌, true, false, ◌||◌, List, [], ◌∷◌, IsTrue, Option}
use Rattle.year_image.specs.Piece.{Piece}
use Rattle.program_meaning.specs.Answer.{Answer, Gives, Fails}
use Rattle.program_meaning.specs.Arithmetic.{Scaled, value, operand_value}
use Rattle.program_meaning.specs.Compare.{test}
use Rattle.program_meaning.specs.Layout.{Layout}
use Rattle.program_meaning.specs.State.{Program, Task, Do, Turn, Set, Advance, Test, World, State, Running, Stopped, Faulted}
use Rattle.program_meaning.specs.Step.{Calendar}
use Rattle.program_meaning.specs.Storage.{Storage, View, view, bytes_at}
use Rattle.program_meaning.specs.Tree.{Place, Operand, At, Number, Text, Figure, Expr, One, Add, Sub, Condition, Relation, Numeric, Alphabetic, Sign, Holds, Not, And, Or, Rel, Equal, Less, Greater, Register, Date, Day, Time, Statement, Stated, Form, Move, Compute, If, NextSentence, GoTo, Stop, Nothing, Perform, Open, Close, Read, Write, Accept, Show}
use Rattle.tame_runs.specs.Years.{IsTameStorage, AreTameFiles, years_by, any_windowed, AreYears, has_digits}

-- the day's year is the manifest's pivot or more where the day is accepted
abbrev pub IsTameDay : ℕ → Calendar → Register → Type 0
IsTameDay pivot day Date = pivot ≤ day.yy
IsTameDay pivot day Day = pivot ≤ day.yy
IsTameDay pivot day Time = Unit {0}

abbrev pub HasDigits : Layout → Storage → Answer View → Type 0
HasDigits layout store (Gives v) = IsTrue (has_digits v.kind (bytes_at layout store v))
HasDigits layout store (Fails e) = Unit {0}

abbrev pub IsNumber : Answer Scaled → Type 0
IsNumber (Gives a) = Unit {0}
IsNumber (Fails e) = ⊥

module _ (layout : Layout) (pss : List (List Piece)) (store : Storage) where
  -- the years of an operand, by their pivots
  abbrev pub operand_years : Operand → List (Option ℕ)
  operand_years (At p) = years_by pss (view layout store p)
  operand_years (Number n scale digits) = []
  operand_years (Text bs) = []
  operand_years (Figure b) = []

  -- an operand of a windowed order comparison: a place has digits
  abbrev pub IsDigits : Operand → Type 0
  IsDigits (At p) = HasDigits layout store (view layout store p)
  IsDigits (Number n scale digits) = Unit {0}
  IsDigits (Text bs) = Unit {0}
  IsDigits (Figure b) = Unit {0}

  -- an order comparison with a windowed year meets digits
  abbrev pub MeetsDigits : Operand → Operand → Type 0
  MeetsDigits x y = any_windowed (operand_years x) || any_windowed (operand_years y) ≡ true → IsDigits x × IsDigits y

  abbrev pub IsTameOrder : Expr → Expr → Type 0
  IsTameOrder (One x) (One y) = MeetsDigits x y
  IsTameOrder x y = Unit {0}

  abbrev pub IsTameRelation : Expr → Rel → Expr → Type 0
  IsTameRelation x Equal y = Unit {0}
  IsTameRelation x Less y = IsTameOrder x y
  IsTameRelation x Greater y = IsTameOrder x y

  -- the relations that are decided: the second side of AND and OR only where the first doesn't decide
  abbrev pub IsTameTest : Condition → Type 0
  IsTameTest (Relation x rel y) = IsTameRelation x rel y
  IsTameTest (Numeric p) = Unit {0}
  IsTameTest (Alphabetic p) = Unit {0}
  IsTameTest (Sign x rel) = Unit {0}
  IsTameTest (Holds p) = Unit {0}
  IsTameTest (Not c) = IsTameTest c
  IsTameTest (And c d) = IsTameTest c × (test layout store c ≡ Gives true → IsTameTest d)
  IsTameTest (Or c d) = IsTameTest c × (test layout store c ≡ Gives false → IsTameTest d)

  -- what a sum or difference of two operands comes to is a year for each year of the receiver
  abbrev pub IsTameResult : Place → Expr → Type 0
  IsTameResult to x = AreYears (years_by pss (view layout store to)) (value layout store x)

  -- a difference with a windowed year is one of numbers
  abbrev pub IsTameDifference : Place → Operand → Operand → Type 0
  IsTameDifference to x y =
      any_windowed (operand_years (At to)) || (any_windowed (operand_years x) || any_windowed (operand_years y)) ≡ true
      → IsNumber (operand_value layout store x) × IsNumber (operand_value layout store y)

  -- only a sum or difference of two operands is computed for a year
  abbrev pub IsTameComputation : Place → Expr → Type 0
  IsTameComputation to (Add (One x) (One y)) = IsTameResult to (Add (One x) (One y))
  IsTameComputation to (Sub (One x) (One y)) = IsTameResult to (Sub (One x) (One y)) × IsTameDifference to x y
  IsTameComputation to x = Unit {0}

module _ (pivot : ℕ) (day : Calendar) (layout : Layout) (pss : List (List Piece)) (store : Storage) where
  abbrev pub IsTameForm : Form → Type 0
  IsTameForm (Move from to) = Unit {0}
  IsTameForm (Compute to rounded x rest size) = IsTameComputation layout pss store to x
  IsTameForm (If c body other) = IsTameTest layout pss store c
  IsTameForm NextSentence = Unit {0}
  IsTameForm (GoTo name) = Unit {0}
  IsTameForm Stop = Unit {0}
  IsTameForm Nothing = Unit {0}
  IsTameForm (Perform what control) = Unit {0}
  IsTameForm (Open mode file) = Unit {0}
  IsTameForm (Close file) = Unit {0}
  IsTameForm (Read file into end) = Unit {0}
  IsTameForm (Write name from) = Unit {0}
  IsTameForm (Accept to from) = IsTameDay pivot day from
  IsTameForm (Show operands) = Unit {0}

  abbrev pub IsTameStatement : Statement → Type 0
  IsTameStatement (Stated id form) = IsTameForm form

  -- a stepping of VARYING is a sum
  abbrev pub IsTameTask : Task → Type 0
  IsTameTask (Do statement) = IsTameStatement statement
  IsTameTask (Turn id what left) = Unit {0}
  IsTameTask (Set loop vary) = Unit {0}
  IsTameTask (Advance loop vary) = IsTameComputation layout pss store vary.item (Add (One vary.by) (One (At vary.item)))
  IsTameTask (Test loop) = IsTameTest layout pss store loop.test

  -- the next task, if there is one
  abbrev pub AreTameTasks : List Task → Type 0
  AreTameTasks [] = Unit {0}
  AreTameTasks (task ∷ tasks) = IsTameTask task

-- storage and files are tame
abbrev pub IsTameWorld : List (List Piece) → List (List Piece) → World → Type 0
IsTameWorld files pss w = IsTameStorage pss w.storage × AreTameFiles files w.files

-- a state from which the next step is tame; `files` are the pieces of the records of files, and `pss` those of the areas
abbrev pub IsTameState : ℕ → Calendar → List (List Piece) → List (List Piece) → Program → State → Type 0
IsTameState pivot day files pss program (Running point frames w) =
    IsTameWorld files pss w × AreTameTasks pivot day program.layout pss w.storage point.tasks
IsTameState pivot day files pss program (Stopped w) = IsTameWorld files pss w
IsTameState pivot day files pss program (Faulted fault at w) = IsTameWorld files pss w
