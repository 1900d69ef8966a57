-- One step of a program.
use Rattle.std.specs.Prelude.{ℕ, zero, suc, ◌+◌, ◌-◌, ◌*◌, ◌%◌, Bool, true, false, cond, ◌||◌, ◌==◌, List, [], ◌∷◌, ◌++◌, length, slice_index_or, slice_set, ℤ, pos, negsuc, Option, Some, None}
use Rattle.program_meaning.specs.Answer.{or_fault, Answer, Gives, Fails, Fault, Range, File}
use Rattle.program_meaning.specs.Tree.{Name, StatementId, Place, Operand, Number, At, One, Add, Vary, Control, Once, Times, Until, Register, Date, Day, Time, Statement, Stated, Statements, Nil, Cons, Phrase, Absent, Present, Performed, Through, Inline, Form, Move, Compute, If, NextSentence, GoTo, Stop, Nothing, Perform, Open, Close, Read, Write, Accept, Show}
use Rattle.program_meaning.specs.Layout.{Layout, Span, same_name, item_of}
use Rattle.program_meaning.specs.Storage.{Storage, read, write}
use Rattle.program_meaning.specs.Moves.{move, move_group, move_record, show_all}
use Rattle.program_meaning.specs.Arithmetic.{operand_value, compute}
use Rattle.program_meaning.specs.Compare.{test}
use Rattle.program_meaning.specs.Start.{start}
use Rattle.program_meaning.specs.Files.{Disk, Done, disk_at, open_file, close_file, read_file, write_file}
use Rattle.program_meaning.specs.State.{Channel, Program, Loop, Task, Do, Turn, Set, Advance, Test, Point, Frame, Shown, World, State, Running, Stopped, Faulted, before, point, on, from_paragraph, after_range, at_front}

-- the day of a run: the last two digits of its year, its month and its day
pub record Calendar : Type 0 where
  pub yy : ℕ
  pub mm : ℕ
  pub dd : ℕ

-- the days of the months
abbrev pub month_lengths : Bool → List ℕ
month_lengths leap = 31 ∷ cond leap 29 28 ∷ 31 ∷ 30 ∷ 31 ∷ 30 ∷ 31 ∷ 31 ∷ 30 ∷ 31 ∷ 30 ∷ 31 ∷ []

-- the days of the first n months
abbrev pub days_before : ℕ → List ℕ → ℕ
days_before zero ms = 0
days_before (suc n) [] = 0
days_before (suc n) (m ∷ ms) = m + days_before n ms

-- DATE is YYMMDD, DAY is YYDDD, TIME is eight zeros, each as an unsigned integer of these digits. February has 29
-- days where YY is divisible by 4
abbrev pub register : Calendar → Register → Operand
register day Date = Number (pos (day.yy * 10000 + day.mm * 100 + day.dd)) 0 6
register day Day = Number (pos (day.yy * 1000 + (days_before (day.mm - 1) (month_lengths (day.yy % 4 == 0)) + day.dd))) 0 5
register day Time = Number (pos 0) 0 8

abbrev pub with_storage : World → Storage → World
with_storage w s = record { storage = s; files = w.files; shown = w.shown }

abbrev pub with_files : World → List Disk → World
with_files w ds = record { storage = w.storage; files = ds; shown = w.shown }

abbrev pub with_shown : World → StatementId → List (List ℕ) → World
with_shown w id parts = record { storage = w.storage; files = w.files; shown = w.shown ++ record { at = id; parts = parts } ∷ [] }

-- a fault ends the run at its statement, with the world as it was
abbrev pub attempt : {A : Type 0} → StatementId → World → Answer A → (A → State) → State
attempt id w (Gives a) f = f a
attempt id w (Fails e) f = Faulted e id w

abbrev pub channel_of : Name → List Channel → Option Channel
channel_of n [] = None
channel_of n (c ∷ cs) = cond (same_name n c.name) (Some c) (channel_of n cs)

-- the file whose records stand in an area
abbrev pub channel_at : ℕ → List Channel → Option Channel
channel_at a [] = None
channel_at a (c ∷ cs) = cond (c.area == a) (Some c) (channel_at a cs)

-- what a file call did: its status with what stands after it, or a fault with what was done before
pub data Called : Type 0 where
  Told : (status : ℕ) (world : World) → Called
  Broken : (fault : Fault) (world : World) → Called

-- a change of storage, or the fault that it met
abbrev pub stored_by : ℕ → World → Answer Storage → Called
stored_by status w (Gives s) = Told status (with_storage w s)
stored_by status w (Fails e) = Broken e w

-- the two digits go to the status item; without one a status other than 00 is a fault, but for 10 with AT END
abbrev pub told : Layout → Option Place → Bool → ℕ → World → Called
told layout None end status w = cond (status == 0 || cond end (status == 10) false) (Told status w) (Broken File w)
told layout (Some p) end status w = stored_by status w (move layout w.storage (Number (pos status) 0 2) p)

-- the whole record area
abbrev pub record_span : World → Channel → Span
record_span w c = record { area = c.area; start = 0; count = length (slice_index_or w.storage c.area []) }

abbrev pub disk_of : World → Channel → Disk
disk_of w c = disk_at w.files c.file

abbrev pub after_call : World → Channel → Done → World
after_call w c d = with_files w (slice_set w.files c.file d.disk)

-- the record that was read goes to the record area
abbrev pub with_record : Channel → Option (List ℕ) → World → World
with_record c None w = w
with_record c (Some r) w = with_storage w (write w.storage (record_span w c) r)

-- and then, at 00, the whole record area by INTO, as from a group
abbrev pub into_place : Layout → Channel → Option Place → Called → Called
into_place layout c None r = r
into_place layout c (Some p) (Told zero w) = stored_by 0 w (move_group layout w.storage (read w.storage (record_span w c)) p)
into_place layout c (Some p) (Told (suc n) w) = Told (suc n) w
into_place layout c (Some p) (Broken e w) = Broken e w

-- on with the status, or the end by the fault
abbrev pub after_status : StatementId → Called → (ℕ → World → State) → State
after_status id (Told status w) f = f status w
after_status id (Broken e w) f = Faulted e id w

-- there is an AT END
abbrev pub has_end : Phrase → Bool
has_end Absent = false
has_end (Present Nil other) = false
has_end (Present (Cons s ss) other) = true

-- AT END at 10, NOT AT END at 00
abbrev pub by_status : ℕ → Phrase → Statements
by_status status Absent = Nil
by_status status (Present met other) = cond (status == 10) met (cond (status == 0) other Nil)

-- ON SIZE ERROR, or the other list
abbrev pub by_size : Bool → Phrase → Statements
by_size error Absent = Nil
by_size error (Present met other) = cond error met other

-- there is a size phrase, of either kind
abbrev pub has_size : Phrase → Bool
has_size Absent = false
has_size (Present met other) = true

-- a count below 1 makes no turn
abbrev pub turns : ℤ → ℕ
turns (pos n) = n
turns (negsuc n) = 0

module _ (program : Program) (day : Calendar) where
  -- a file call: its own part, the record that was read, and the status
  abbrev pub call : World → Channel → Done → Bool → Called
  call w c d end = told program.layout c.status end d.status (with_record c d.got (after_call w c d))

  -- a call for the file that a name means; a sound program has it
  abbrev pub for_file : StatementId → World → Name → (Channel → Called) → (ℕ → World → State) → State
  for_file id w n f g = attempt id w (or_fault Range (channel_of n program.channels)) (λ c. after_status id (f c) g)

  -- READ: the file's part, the record area, the status item, and then INTO
  abbrev pub read_record : World → Option Place → Bool → Channel → Called
  read_record w into end c = into_place program.layout c into (call w c (read_file (disk_of w c)) end)

  abbrev pub from_operand : World → Option Operand → Span → Called
  from_operand w None span = Told 0 w
  from_operand w (Some o) span = stored_by 0 w (move_record program.layout w.storage o span)

  -- WRITE: first FROM, whatever the status, then the file's part, then the status item
  abbrev pub write_from : Channel → Span → Called → Called
  write_from c span (Told status w) = call w c (write_file (disk_of w c) (read w.storage span)) false
  write_from c span (Broken e w) = Broken e w

  abbrev pub write_record : StatementId → World → Name → Option Operand → (ℕ → World → State) → State
  write_record id w n from g =
      attempt id w (or_fault Range (item_of program.layout (n ∷ []))) (λ i. attempt id w (or_fault Range (channel_at i.span.area program.channels))
      (λ c. after_status id (write_from c i.span (from_operand w from i.span)) g))

  -- a turn: the body in front of what comes after it, or the paragraphs with what comes after them on the stack
  abbrev pub turn : Performed → List Task → Point → List Frame → World → State
  turn (Inline body) then' p frames w = on frames (point (before body (then' ++ p.tasks)) p.sentences p.paragraphs) w
  turn (Through first last) then' p frames w =
      on (record { after = after_range (from_paragraph last program.paragraphs); goes_on = point (then' ++ p.tasks) p.sentences p.paragraphs } ∷ frames)
      (at_front (from_paragraph first program.paragraphs)) w

  -- a turn under TIMES, with as many after it
  abbrev pub times_turn : StatementId → Performed → ℕ → Point → List Frame → World → State
  times_turn id what zero p frames w = on frames p w
  times_turn id what (suc zero) p frames w = turn what [] p frames w
  times_turn id what (suc (suc n)) p frames w = turn what (Turn id what (suc n) ∷ []) p frames w

  abbrev pub stepping : Loop → Option Vary → List Task
  stepping l None = []
  stepping l (Some v) = Advance l v ∷ []

  -- what follows a turn: the test where it comes after, else the stepping and the test
  abbrev pub after_turn : Loop → List Task
  after_turn l = cond l.after (Test l ∷ []) (stepping l l.vary ++ Test l ∷ [])

  -- a turn under UNTIL
  abbrev pub until_turn : Loop → Point → List Frame → World → State
  until_turn l p frames w = turn l.what (after_turn l) p frames w

  -- a further turn; after a test behind the turn the stepping comes first
  abbrev pub further : Loop → Bool → Option Vary → Point → List Frame → World → State
  further l true (Some v) p frames w = on frames (point (Advance l v ∷ p.tasks) p.sentences p.paragraphs) w
  further l true None p frames w = until_turn l p frames w
  further l false v p frames w = until_turn l p frames w

  -- where the condition doesn't hold there is a further turn
  abbrev pub tested : Loop → Bool → Point → List Frame → World → State
  tested l true p frames w = on frames p w
  tested l false p frames w = further l l.after l.vary p frames w

  -- after the stepping: the test, or where it came before, the turn
  abbrev pub advanced : Loop → Point → List Frame → World → State
  advanced l p frames w = cond l.after (until_turn l p frames w) (on frames p w)

  -- the first turn: at once where the test comes after, else by the test
  abbrev pub begun : Loop → Point → List Frame → World → State
  begun l p frames w = cond l.after (until_turn l p frames w) (on frames (point (Test l ∷ p.tasks) p.sentences p.paragraphs) w)

  -- with VARYING the item is set first
  abbrev pub entered : Loop → Option Vary → Point → List Frame → World → State
  entered l None p frames w = begun l p frames w
  entered l (Some v) p frames w = on frames (point (Set l v ∷ p.tasks) p.sentences p.paragraphs) w

  -- the entry of a PERFORM
  abbrev pub perform : StatementId → Performed → Control → Point → List Frame → World → State
  perform id what Once p frames w = turn what [] p frames w
  perform id what (Times count) p frames w =
      attempt id w (operand_value program.layout w.storage count) (λ n. times_turn id what (turns n.number) p frames w)
  perform id what (Until after test' vary) p frames w =
      entered (record { id = id; what = what; after = after; test = test'; vary = vary }) vary p frames w

  -- a list of statements in front of what is left
  abbrev pub begin : Statements → Point → List Frame → World → State
  begin ss p frames w = on frames (point (before ss p.tasks) p.sentences p.paragraphs) w

  -- one simple statement, one whole condition, or the entry of a PERFORM. The point is what is left after it.
  -- NEXT SENTENCE drops what is left of the sentence; GO TO drops what is left of the paragraph, and leaves the open
  -- PERFORMs
  abbrev pub act : StatementId → Form → Point → List Frame → World → State
  act id (Move from to) p frames w = attempt id w (move program.layout w.storage from to) (λ s. on frames p (with_storage w s))
  act id (Compute to rounded x rest size) p frames w =
      attempt id w (compute program.layout w.storage to rounded x rest (has_size size)) (λ r. begin (by_size r.0 size) p frames (with_storage w r.1))
  act id (If c body other) p frames w = attempt id w (test program.layout w.storage c) (λ b. begin (cond b body other) p frames w)
  act id NextSentence p frames w = on frames (point [] p.sentences p.paragraphs) w
  act id (GoTo n) p frames w = on frames (at_front (from_paragraph n program.paragraphs)) w
  act id Stop p frames w = Stopped w
  act id Nothing p frames w = on frames p w
  act id (Perform what control) p frames w = perform id what control p frames w
  act id (Open m n) p frames w = for_file id w n (λ c. call w c (open_file (disk_of w c) m) false) (λ status w'. on frames p w')
  act id (Close n) p frames w = for_file id w n (λ c. call w c (close_file (disk_of w c)) false) (λ status w'. on frames p w')
  act id (Read n into end) p frames w = for_file id w n (read_record w into (has_end end)) (λ status w'. begin (by_status status end) p frames w')
  act id (Write n from) p frames w = write_record id w n from (λ status w'. on frames p w')
  act id (Accept to from) p frames w = attempt id w (move program.layout w.storage (register day from) to) (λ s. on frames p (with_storage w s))
  act id (Show os) p frames w = attempt id w (show_all program.layout w.storage os) (λ parts. on frames p (with_shown w id parts))

  abbrev pub act_statement : Statement → Point → List Frame → World → State
  act_statement (Stated id form) p frames w = act id form p frames w

  -- setting is a move, stepping is an ADD of `by` to the item
  abbrev pub act_task : Task → Point → List Frame → World → State
  act_task (Do s) p frames w = act_statement s p frames w
  act_task (Turn id what left) p frames w = times_turn id what left p frames w
  act_task (Set l v) p frames w = attempt l.id w (move program.layout w.storage v.from v.item) (λ s. begun l p frames (with_storage w s))
  act_task (Advance l v) p frames w =
      attempt l.id w (compute program.layout w.storage v.item false (Add (One v.by) (One (At v.item))) None false) (λ r. advanced l p frames (with_storage w r.1))
  act_task (Test l) p frames w = attempt l.id w (test program.layout w.storage l.test) (λ b. tested l b p frames w)

  -- the end of the text is a STOP RUN
  abbrev pub step_at : List Task → Point → List Frame → World → State
  step_at [] p frames w = Stopped w
  step_at (t ∷ ts) p frames w = act_task t (point ts p.sentences p.paragraphs) frames w

  abbrev pub step : State → State
  step (Running p frames w) = step_at p.tasks p frames w
  step (Stopped w) = Stopped w
  step (Faulted e id w) = Faulted e id w

  abbrev pub run : ℕ → State → State
  run zero s = s
  run (suc n) s = run n (step s)

-- a program begins at its first statement, with its storage at the start
abbrev pub initial : Program → List Disk → List Shown → State
initial program files shown =
    on [] (at_front program.paragraphs) (record { storage = start program.layout; files = files; shown = shown })
