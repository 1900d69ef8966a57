-- A job has as many files after it as before it.
use Rattle.std.proofs.Common.{◌≡◌, ℕ, zero, suc, Bool, true, false, cond, List, [], ◌∷◌, ◌++◌, length, Option, Some, None, refl, ap, ◌∙◌}
use Rattle.std.specs.Prelude.{◌==◌, ◌||◌, pos}
use Rattle.std.proofs.lemmas.List.{length-set}
use Rattle.program_meaning.specs.Answer.{Answer, Gives, Fails, File, Range, or_fault}
use Rattle.program_meaning.specs.Tree.{Name, StatementId, Place, Operand, Number, One, Add, At, Vary, Control, Once, Times, Until, Statement, Stated, Phrase, Performed, Through, Inline, Form, Move, Compute, If, NextSentence, GoTo, Stop, Nothing, Perform, Open, Close, Read, Write, Accept, Show}
use Rattle.program_meaning.specs.Layout.{Item, Layout, Span, item_of}
use Rattle.program_meaning.specs.Storage.{Storage, read}
use Rattle.program_meaning.specs.Moves.{move, move_group, move_record, show_all}
use Rattle.program_meaning.specs.Arithmetic.{operand_value, compute}
use Rattle.program_meaning.specs.Compare.{test}
use Rattle.program_meaning.specs.Files.{Disk, Done, closed, open_file, close_file, read_file, write_file}
use Rattle.program_meaning.specs.State.{Channel, Program, Loop, Task, Do, Turn, Set, Advance, Test, Point, Frame, World, State, Running, Stopped, Faulted, on, point, Shown}
use Rattle.program_meaning.specs.Step as step
use Rattle.program_meaning.specs.Step.{Calendar, Called, Told, Broken, attempt, after_status, initial}
use Rattle.program_meaning.specs.Job.{End, Ended, JobState, Going, Over, files_of, job_after, job_run, job_start, job_step, next_program, passed_on, world_of}

abbrev pub IsSized : ℕ → State → Type 0
IsSized n s = length (world_of s).files ≡ n

abbrev pub called_world : Called → World
called_world (Told status w) = w
called_world (Broken e w) = w

abbrev pub IsSizedCall : ℕ → Called → Type 0
IsSizedCall n c = length (called_world c).files ≡ n

kept-attempt : {A : Type 0} (n : ℕ) (id : StatementId) (w : World) (a : Answer A) (f : A → State) → length w.files ≡ n → ((x : A) → IsSized n (f x)) → IsSized n (attempt id w a f)
kept-attempt n id w (Gives x) f same kept = kept x
kept-attempt n id w (Fails e) f same kept = same

kept-stored : (n status : ℕ) (w : World) (a : Answer Storage) → length w.files ≡ n → IsSizedCall n (step.stored_by status w a)
kept-stored n status w (Gives s) same = same
kept-stored n status w (Fails e) same = same

kept-cond : (n : ℕ) (b : Bool) (c d : Called) → IsSizedCall n c → IsSizedCall n d → IsSizedCall n (cond b c d)
kept-cond n true c d left right = left
kept-cond n false c d left right = right

kept-told : (n : ℕ) (layout : Layout) (item : Option Place) (end : Bool) (status : ℕ) (w : World) → length w.files ≡ n → IsSizedCall n (step.told layout item end status w)
kept-told n layout None end status w same = kept-cond n (status == 0 || cond end (status == 10) false) (Told status w) (Broken File w) same same
kept-told n layout (Some p) end status w same = kept-stored n status w (move layout w.storage (Number (pos status) 0 2) p) same

kept-record : (n : ℕ) (c : Channel) (got : Option (List ℕ)) (w : World) → length w.files ≡ n → length (step.with_record c got w).files ≡ n
kept-record n c None w same = same
kept-record n c (Some r) w same = same

kept-into : (n : ℕ) (layout : Layout) (c : Channel) (into : Option Place) (r : Called) → IsSizedCall n r → IsSizedCall n (step.into_place layout c into r)
kept-into n layout c None r same = same
kept-into n layout c (Some p) (Told zero w) same = kept-stored n 0 w (move_group layout w.storage (read w.storage (step.record_span w c)) p) same
kept-into n layout c (Some p) (Told (suc k) w) same = same
kept-into n layout c (Some p) (Broken e w) same = same

kept-status : (n : ℕ) (id : StatementId) (c : Called) (f : ℕ → World → State) → IsSizedCall n c → ((status : ℕ) (w : World) → length w.files ≡ n → IsSized n (f status w)) → IsSized n (after_status id c f)
kept-status n id (Told status w) f same kept = kept status w same
kept-status n id (Broken e w) f same kept = same

module _ (program : Program) (day : Calendar) (n : ℕ) where
  kept-call : (w : World) (c : Channel) (d : Done) (end : Bool) → length w.files ≡ n → IsSizedCall n (step.call program day w c d end)
  kept-call w c d end same =
      kept-told n program.layout c.status end d.status (step.with_record c d.got (step.after_call w c d))
      (kept-record n c d.got (step.after_call w c d) (length-set w.files c.file d.disk ∙ same))

  kept-for : (id : StatementId) (w : World) (name : Name) (f : Channel → Called) (g : ℕ → World → State) → length w.files ≡ n
      → ((c : Channel) → IsSizedCall n (f c)) → ((status : ℕ) (v : World) → length v.files ≡ n → IsSized n (g status v)) → IsSized n (step.for_file program day id w name f g)
  kept-for id w name f g same called kept =
      kept-attempt n id w (or_fault Range (step.channel_of name program.channels)) (λ (c : Channel). after_status id (f c) g) same
      (λ (c : Channel). kept-status n id (f c) g (called c) kept)

  kept-from : (w : World) (from : Option Operand) (span : Span) → length w.files ≡ n → IsSizedCall n (step.from_operand program day w from span)
  kept-from w None span same = same
  kept-from w (Some o) span same = kept-stored n 0 w (move_record program.layout w.storage o span) same

  kept-write : (c : Channel) (span : Span) (r : Called) → IsSizedCall n r → IsSizedCall n (step.write_from program day c span r)
  kept-write c span (Told status w) same = kept-call w c (write_file (step.disk_of w c) (read w.storage span)) false same
  kept-write c span (Broken e w) same = same

  kept-turn : (what : Performed) (then' : List Task) (p : Point) (frames : List Frame) (w : World) → length w.files ≡ n → IsSized n (step.turn program day what then' p frames w)
  kept-turn (Inline body) then' p frames w same = same
  kept-turn (Through first last) then' p frames w same = same

  kept-times : (id : StatementId) (what : Performed) (left : ℕ) (p : Point) (frames : List Frame) (w : World) → length w.files ≡ n → IsSized n (step.times_turn program day id what left p frames w)
  kept-times id what zero p frames w same = same
  kept-times id what (suc zero) p frames w same = kept-turn what [] p frames w same
  kept-times id what (suc (suc k)) p frames w same = kept-turn what (Turn id what (suc k) ∷ []) p frames w same

  kept-further : (l : Loop) (after : Bool) (v : Option Vary) (p : Point) (frames : List Frame) (w : World) → length w.files ≡ n → IsSized n (step.further program day l after v p frames w)
  kept-further l true (Some v) p frames w same = same
  kept-further l true None p frames w same = kept-turn l.what (step.after_turn program day l) p frames w same
  kept-further l false v p frames w same = kept-turn l.what (step.after_turn program day l) p frames w same

  kept-tested : (l : Loop) (b : Bool) (p : Point) (frames : List Frame) (w : World) → length w.files ≡ n → IsSized n (step.tested program day l b p frames w)
  kept-tested l true p frames w same = same
  kept-tested l false p frames w same = kept-further l l.after l.vary p frames w same

  kept-either : (b : Bool) (s t : State) → IsSized n s → IsSized n t → IsSized n (cond b s t)
  kept-either true s t left right = left
  kept-either false s t left right = right

  kept-advanced : (l : Loop) (p : Point) (frames : List Frame) (w : World) → length w.files ≡ n → IsSized n (step.advanced program day l p frames w)
  kept-advanced l p frames w same = kept-either l.after (step.until_turn program day l p frames w) (on frames p w) (kept-turn l.what (step.after_turn program day l) p frames w same) same

  kept-begun : (l : Loop) (p : Point) (frames : List Frame) (w : World) → length w.files ≡ n → IsSized n (step.begun program day l p frames w)
  kept-begun l p frames w same =
      kept-either l.after (step.until_turn program day l p frames w) (on frames (point (Test l ∷ p.tasks) p.sentences p.paragraphs) w)
      (kept-turn l.what (step.after_turn program day l) p frames w same) same

  kept-entered : (l : Loop) (v : Option Vary) (p : Point) (frames : List Frame) (w : World) → length w.files ≡ n → IsSized n (step.entered program day l v p frames w)
  kept-entered l None p frames w same = kept-begun l p frames w same
  kept-entered l (Some v) p frames w same = same

  kept-perform : (id : StatementId) (what : Performed) (control : Control) (p : Point) (frames : List Frame) (w : World) → length w.files ≡ n → IsSized n (step.perform program day id what control p frames w)
  kept-perform id what Once p frames w same = kept-turn what [] p frames w same
  kept-perform id what (Times count) p frames w same =
      kept-attempt n id w (operand_value program.layout w.storage count) (λ x. step.times_turn program day id what (step.turns x.number) p frames w) same
      (λ x. kept-times id what (step.turns x.number) p frames w same)
  kept-perform id what (Until after test' vary) p frames w same =
      kept-entered (record { id = id; what = what; after = after; test = test'; vary = vary }) vary p frames w same

  kept-written : (id : StatementId) (w : World) (name : Name) (from : Option Operand) (p : Point) (frames : List Frame) → length w.files ≡ n
      → IsSized n (step.write_record program day id w name from (λ status v. on frames p v))
  kept-written id w name from p frames same =
      kept-attempt n id w (or_fault Range (item_of program.layout (name ∷ [])))
      (λ (i : Item). attempt id w (or_fault Range (step.channel_at i.span.area program.channels))
      (λ (c : Channel). after_status id (step.write_from program day c i.span (step.from_operand program day w from i.span)) (λ status v. on frames p v)))
      same
      (λ (i : Item). kept-attempt n id w (or_fault Range (step.channel_at i.span.area program.channels))
      (λ (c : Channel). after_status id (step.write_from program day c i.span (step.from_operand program day w from i.span)) (λ status v. on frames p v))
      same
      (λ (c : Channel). kept-status n id (step.write_from program day c i.span (step.from_operand program day w from i.span)) (λ status v. on frames p v)
      (kept-write c i.span (step.from_operand program day w from i.span) (kept-from w from i.span same)) (λ status v kept. kept)))

  kept-read : (id : StatementId) (w : World) (name : Name) (into : Option Place) (end : Phrase) (p : Point) (frames : List Frame) → length w.files ≡ n
      → IsSized n (step.act program day id (Read name into end) p frames w)
  kept-read id w name into end p frames same =
      kept-for id w name (step.read_record program day w into (step.has_end end)) (λ status v. step.begin program day (step.by_status status end) p frames v) same
      (λ (c : Channel). kept-into n program.layout c into (step.call program day w c (read_file (step.disk_of w c)) (step.has_end end))
      (kept-call w c (read_file (step.disk_of w c)) (step.has_end end) same))
      (λ status v kept. kept)

  kept-act : (id : StatementId) (form : Form) (p : Point) (frames : List Frame) (w : World) → length w.files ≡ n → IsSized n (step.act program day id form p frames w)
  kept-act id (Move from to) p frames w same =
      kept-attempt n id w (move program.layout w.storage from to) (λ (s : Storage). on frames p (step.with_storage w s)) same (λ s. same)
  kept-act id (Compute to rounded x rest size) p frames w same =
      kept-attempt n id w (compute program.layout w.storage to rounded x rest (step.has_size size))
      (λ r. step.begin program day (step.by_size r.0 size) p frames (step.with_storage w r.1)) same (λ r. same)
  kept-act id (If c body other) p frames w same =
      kept-attempt n id w (test program.layout w.storage c) (λ (b : Bool). step.begin program day (cond b body other) p frames w) same (λ b. same)
  kept-act id NextSentence p frames w same = same
  kept-act id (GoTo name) p frames w same = same
  kept-act id Stop p frames w same = same
  kept-act id Nothing p frames w same = same
  kept-act id (Perform what control) p frames w same = kept-perform id what control p frames w same
  kept-act id (Open m name) p frames w same =
      kept-for id w name (λ (c : Channel). step.call program day w c (open_file (step.disk_of w c) m) false) (λ status v. on frames p v) same
      (λ (c : Channel). kept-call w c (open_file (step.disk_of w c) m) false same) (λ status v kept. kept)
  kept-act id (Close name) p frames w same =
      kept-for id w name (λ (c : Channel). step.call program day w c (close_file (step.disk_of w c)) false) (λ status v. on frames p v) same
      (λ (c : Channel). kept-call w c (close_file (step.disk_of w c)) false same) (λ status v kept. kept)
  kept-act id (Read name into end) p frames w same = kept-read id w name into end p frames same
  kept-act id (Write name from) p frames w same = kept-written id w name from p frames same
  kept-act id (Accept to from) p frames w same =
      kept-attempt n id w (move program.layout w.storage (step.register day from) to) (λ (s : Storage). on frames p (step.with_storage w s)) same (λ s. same)
  kept-act id (Show os) p frames w same =
      kept-attempt n id w (show_all program.layout w.storage os) (λ (parts : List (List ℕ)). on frames p (step.with_shown w id parts)) same (λ parts. same)

  kept-statement : (s : Statement) (p : Point) (frames : List Frame) (w : World) → length w.files ≡ n → IsSized n (step.act_statement program day s p frames w)
  kept-statement (Stated id form) p frames w same = kept-act id form p frames w same

  kept-task : (t : Task) (p : Point) (frames : List Frame) (w : World) → length w.files ≡ n → IsSized n (step.act_task program day t p frames w)
  kept-task (Do s) p frames w same = kept-statement s p frames w same
  kept-task (Turn id what left) p frames w same = kept-times id what left p frames w same
  kept-task (Set l v) p frames w same =
      kept-attempt n l.id w (move program.layout w.storage v.from v.item) (λ (s : Storage). step.begun program day l p frames (step.with_storage w s)) same
      (λ (s : Storage). kept-begun l p frames (step.with_storage w s) same)
  kept-task (Advance l v) p frames w same =
      kept-attempt n l.id w (compute program.layout w.storage v.item false (Add (One v.by) (One (At v.item))) None false)
      (λ r. step.advanced program day l p frames (step.with_storage w r.1)) same
      (λ r. kept-advanced l p frames (step.with_storage w r.1) same)
  kept-task (Test l) p frames w same =
      kept-attempt n l.id w (test program.layout w.storage l.test) (λ (b : Bool). step.tested program day l b p frames w) same
      (λ (b : Bool). kept-tested l b p frames w same)

  kept-at : (ts : List Task) (p : Point) (frames : List Frame) (w : World) → length w.files ≡ n → IsSized n (step.step_at program day ts p frames w)
  kept-at [] p frames w same = same
  kept-at (t ∷ ts) p frames w same = kept-task t (point ts p.sentences p.paragraphs) frames w same

  kept-step : (s : State) → IsSized n s → IsSized n (step.step program day s)
  kept-step (Running p frames w) same = kept-at p.tasks p frames w same
  kept-step (Stopped w) same = same
  kept-step (Faulted e id w) same = same

closed-length : (ds : List Disk) → length (closed ds) ≡ length ds
closed-length [] = refl
closed-length (d ∷ ds) = ap suc (closed-length ds)

abbrev pub IsSizedJob : ℕ → JobState → Type 0
IsSizedJob n j = length (files_of j) ≡ n

kept-next : (n : ℕ) (ends : List End) (ps : List Program) (files : List Disk) (shown : List Shown) → length files ≡ n → IsSizedJob n (next_program ends ps files shown)
kept-next n ends [] files shown same = same
kept-next n ends (p ∷ ps) files shown same = closed-length files ∙ same

kept-passed : (n : ℕ) (ends : List End) (p : Program) (ps : List Program) (s : State) → IsSized n s → IsSizedJob n (passed_on ends p ps s)
kept-passed n ends p ps (Running at frames w) same = same
kept-passed n ends p ps (Stopped w) same = kept-next n (ends ++ Ended ∷ []) ps w.files w.shown same
kept-passed n ends p ps (Faulted e id w) same = same

kept-job : (n : ℕ) (day : Calendar) (j : JobState) → IsSizedJob n j → IsSizedJob n (job_step day j)
kept-job n day (Going ends p s ps) same = kept-passed n ends p ps (step.step p day s) (kept-step p day n s same)
kept-job n day (Over ends files shown) same = same

kept-run : (n : ℕ) (day : Calendar) (m : ℕ) (j : JobState) → IsSizedJob n j → IsSizedJob n (job_run day m j)
kept-run n day zero j same = same
kept-run n day (suc m) j same = kept-run n day m (job_step day j) (kept-job n day j same)

pub job-kept : (day : Calendar) (ps : List Program) (files : List Disk) (bound : ℕ) → length (files_of (job_after day ps files bound)) ≡ length files
job-kept day ps files bound = kept-run (length files) day bound (job_start ps files) (kept-next (length files) [] ps files [] refl)
