-- The state of a run, and where it goes on without a step.
use Rattle.std.specs.Prelude.{ℕ, Bool, false, cond, ◌==◌, List, [], ◌∷◌, length, Option, Some, None}
use Rattle.program_meaning.specs.Answer.{Fault}
use Rattle.program_meaning.specs.Tree.{Name, StatementId, Place, Condition, Vary, Performed, Statement, Statements, Nil, Cons, Paragraph}
use Rattle.program_meaning.specs.Layout.{Layout, same_name}
use Rattle.program_meaning.specs.Storage.{Storage}
use Rattle.program_meaning.specs.Files.{Disk}

-- a SELECT: its file by its number in the portfolio, the area of its records, and the place of its status
pub record Channel : Type 0 where
  pub name : Name
  pub file : ℕ
  pub area : ℕ
  pub status : Option Place

-- a program that can run: its paragraphs, its items and its files
pub record Program : Type 0 where
  pub paragraphs : List Paragraph
  pub layout : Layout
  pub channels : List Channel

-- an entered PERFORM: its statement, what is performed, and its UNTIL
pub record Loop : Type 0 where
  pub id : StatementId
  pub what : Performed
  pub after : Bool
  pub test : Condition
  pub vary : Option Vary

-- what is left to do, each a step: a statement; a further turn under TIMES, with the turns left;
-- the setting of VARYING, its stepping, or the test of UNTIL
pub data Task : Type 0 where
  Do : (statement : Statement) → Task
  Turn : (id : StatementId) (what : Performed) (left : ℕ) → Task
  Set : (loop : Loop) (vary : Vary) → Task
  Advance : (loop : Loop) (vary : Vary) → Task
  Test : (loop : Loop) → Task

-- what is left: of the sentence, of the paragraph, and the paragraphs after it. A point stands in a paragraph, if
-- only at its end
pub record Point : Type 0 where
  pub tasks : List Task
  pub sentences : List Statements
  pub paragraphs : List Paragraph

-- an open PERFORM of paragraphs: how many paragraphs of the program come after its range, and where it goes on,
-- with what follows a turn in front. An inline PERFORM is no frame: its body and what follows are tasks
pub record Frame : Type 0 where
  pub after : ℕ
  pub goes_on : Point

-- what a DISPLAY showed: its statement and its parts, one an operand
pub record Shown : Type 0 where
  pub at : StatementId
  pub parts : List (List ℕ)

-- what statements work on
pub record World : Type 0 where
  pub storage : Storage
  pub files : List Disk
  pub shown : List Shown

-- a run goes on with the open PERFORMs, newest first; or it has stopped; or a statement has met a fault
pub data State : Type 0 where
  Running : (point : Point) (frames : List Frame) (world : World) → State
  Stopped : (world : World) → State
  Faulted : (fault : Fault) (at : StatementId) (world : World) → State

-- a list of statements in front of what is left
abbrev pub before : Statements → List Task → List Task
before Nil ts = ts
before (Cons s ss) ts = Do s ∷ before ss ts

-- the first sentence with statements
abbrev pub first_of : List Task → List Statements → Option (List Task × List Statements)
first_of (t ∷ ts) ss = Some (t ∷ ts, ss)
first_of [] [] = None
first_of [] (s ∷ ss) = first_of (before s []) ss

-- the newest PERFORM, if there is one, ends where so many paragraphs are left
abbrev pub is_last : Option ℕ → ℕ → Bool
is_last None n = false
is_last (Some after) n = after == n

-- where a run goes on, with the open PERFORMs
abbrev pub Next : Type 0
Next = Point × List Frame

abbrev pub point : List Task → List Statements → List Paragraph → Point
point ts ss ps = record { tasks = ts; sentences = ss; paragraphs = ps }

-- nothing is left: the end of the text
abbrev pub at_end : Next
at_end = (point [] [] [], [])

-- there, or else where the run goes on otherwise
abbrev pub at_first : Option (List Task × List Statements) → List Paragraph → List Frame → Next → Next
at_first None ps frames otherwise = otherwise
at_first (Some found) ps frames otherwise = (point found.0 found.1 ps, frames)

-- from the end of a paragraph: back where the newest PERFORM ends here, else on in the next paragraph
abbrev pub fall : Option ℕ → Next → List Frame → List Paragraph → Next
fall after back frames [] = cond (is_last after 0) back at_end
fall after back frames (p ∷ ps) =
    cond (is_last after (length (p ∷ ps))) back (at_first (first_of [] p.sentences) ps frames (fall after back frames ps))

-- the next task, past the ends of sentences, paragraphs and PERFORMs, which takes no step
abbrev pub settle : List Frame → Point → Next
settle [] p = at_first (first_of p.tasks p.sentences) p.paragraphs [] (fall None at_end [] p.paragraphs)
settle (f ∷ fs) p = at_first (first_of p.tasks p.sentences) p.paragraphs (f ∷ fs) (fall (Some f.after) (settle fs f.goes_on) (f ∷ fs) p.paragraphs)

abbrev pub resumed : Next → World → State
resumed n w = Running n.0 n.1 w

-- on to the next task
abbrev pub on : List Frame → Point → World → State
on frames p w = resumed (settle frames p) w

-- the paragraphs from one on
abbrev pub from_paragraph : Name → List Paragraph → List Paragraph
from_paragraph n [] = []
from_paragraph n (p ∷ ps) = cond (same_name n p.name) (p ∷ ps) (from_paragraph n ps)

-- how many paragraphs come after those of a section
abbrev pub after_section : List Paragraph → ℕ
after_section [] = 0
after_section (p ∷ ps) = cond p.section (length (p ∷ ps)) (after_section ps)

-- how many paragraphs come after a range that ends with the first of these; a section ends with its last paragraph
abbrev pub after_range : List Paragraph → ℕ
after_range [] = 0
after_range (p ∷ ps) = cond p.section (after_section ps) (length ps)

-- at the front of the first of these paragraphs: in it, and not at the end of the one before it
abbrev pub at_front : List Paragraph → Point
at_front [] = point [] [] []
at_front (p ∷ ps) = point [] p.sentences ps
