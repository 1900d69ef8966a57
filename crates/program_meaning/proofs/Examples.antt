-- Items and programs for examples.
use Rattle.std.proofs.Common.{ℕ, ◌+◌, true, false, List, [], ◌∷◌, Option, Some, None}
use Rattle.std.specs.Prelude.{map, pos, slice_index_or}
use Rattle.program_meaning.specs.Tree.{Name, StatementId, Subscript, Part, Place, Literal, Operand, At, Number, Statement, Stated, Statements, Nil, Cons, Form, Paragraph}
use Rattle.program_meaning.specs.Number.{NumForm, Display, Trailing}
use Rattle.program_meaning.specs.Kind as kind
use Rattle.program_meaning.specs.Layout.{Layout, Item, Values}
use Rattle.program_meaning.specs.State.{Program, Shown, State}
use Rattle.program_meaning.specs.Files.{Disk}
use Rattle.program_meaning.specs.Step.{Calendar, run, initial}
use Rattle.program_meaning.specs.Job.{JobState, job_after, files_of, world_of}
use Rattle.program_meaning.specs.Entries.{Entry, Picture}
use Rattle.program_meaning.specs.Portfolio.{Source, externals, programs_of}

abbrev pub unsigned : ℕ → NumForm
unsigned digits = record { digits = digits; scale = 0; signed = false; sign = Trailing }

abbrev pub signed : ℕ → NumForm
signed digits = record { digits = digits; scale = 0; signed = true; sign = Trailing }

-- an item that is an area of its own
abbrev pub text_item : Name → ℕ → ℕ → Option Operand → Item
text_item name area count value =
    record { name = name; above = []; span = record { area = area; start = 0; count = count }; kind = kind.Text; occurs = []; value = value }

abbrev pub number_item : Name → ℕ → ℕ → Option Operand → Item
number_item name area digits value =
    record { name = name; above = []; span = record { area = area; start = 0; count = digits }; kind = kind.Number Display (unsigned digits); occurs = []; value = value }

abbrev pub place : Name → Place
place n = record { names = n ∷ []; subs = []; cut = None }

abbrev pub cut_place : Name → ℕ → ℕ → Place
cut_place n start length = record { names = n ∷ []; subs = []; cut = Some (record { start = Literal start; length = Some (Literal length) }) }

abbrev pub qualified : List Name → Place
qualified ns = record { names = ns; subs = []; cut = None }

abbrev pub subscripted : List Name → List Subscript → Place
subscripted ns subs = record { names = ns; subs = subs; cut = None }

abbrev pub part_of : List Name → List Subscript → Part → Place
part_of ns subs part = record { names = ns; subs = subs; cut = Some part }

abbrev pub at_place : Name → Operand
at_place n = At (place n)

-- a literal of so many digits
abbrev pub integer : ℕ → ℕ → Operand
integer n digits = Number (pos n) 0 digits

abbrev pub whole_number : ℕ → Operand
whole_number n = Number (pos n) 0 2

-- a statement of the first program
abbrev pub stated : ℕ → StatementId
stated k = record { program = 0; number = k }

-- a statement of the second program
abbrev pub second : ℕ → StatementId
second k = record { program = 1; number = k }

abbrev pub block : List Statement → Statements
block [] = Nil
block (s ∷ ss) = Cons s (block ss)

abbrev pub numbered : ℕ → List Form → Statements
numbered k [] = Nil
numbered k (f ∷ fs) = Cons (Stated (stated k) f) (numbered (k + 1) fs)

-- a paragraph of one sentence
abbrev pub paragraph : Name → ℕ → List Form → Paragraph
paragraph n k fs = record { name = n; section = false; sentences = numbered k fs ∷ [] }

abbrev pub some_day : Calendar
some_day = record { yy = 99; mm = 3; dd = 1 }

-- the state after n steps of a program alone
abbrev pub after : ℕ → Program → List Disk → State
after n p files = run p some_day n (initial p files [])

abbrev pub area_after : ℕ → ℕ → Program → List Disk → List ℕ
area_after a n p files = slice_index_or (world_of (after n p files)).storage a []

-- entries: a group, an elementary item, one with REDEFINES, one with a VALUE, and a condition-name
abbrev pub group : ℕ → Name → Entry
group level name =
    record { level = level; name = name; redefines = false; occurs = None; picture = None; usage = Display; sign = Trailing; value = None; values = [] }

abbrev pub elementary : ℕ → Name → Picture → Entry
elementary level name picture =
    record { level = level; name = name; redefines = false; occurs = None; picture = Some picture; usage = Display; sign = Trailing; value = None; values = [] }

abbrev pub redefining : ℕ → Name → Picture → Entry
redefining level name picture =
    record { level = level; name = name; redefines = true; occurs = None; picture = Some picture; usage = Display; sign = Trailing; value = None; values = [] }

abbrev pub valued : ℕ → Name → Picture → Operand → Entry
valued level name picture value =
    record { level = level; name = name; redefines = false; occurs = None; picture = Some picture; usage = Display; sign = Trailing; value = Some value; values = [] }

abbrev pub values_of : Name → List Values → Entry
values_of name values =
    record { level = 88; name = name; redefines = false; occurs = None; picture = None; usage = Display; sign = Trailing; value = None; values = values }

abbrev pub piece : StatementId → List (List ℕ) → Shown
piece at parts = record { at = at; parts = parts }

-- what stands after n steps of a job of these programs, and the records that its files then hold
abbrev pub after_steps : List Source → List Disk → ℕ → JobState
after_steps ps disks = job_after some_day (programs_of (externals ps) ps) disks

abbrev pub held : JobState → List (Option (List (List ℕ)))
held j = map (λ d. d.records) (files_of j)
