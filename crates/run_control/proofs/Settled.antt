-- Where a run goes on from the ends of lists, sentences and paragraphs.
use Rattle.std.proofs.Common.{◌≡◌, ◌≤◌, ℕ, Bool, get_or, take, drop, ◌-◌, arith, cond, ◌==◌, List, [], ◌∷◌, length, map, refl, ap, sym, ◌∙◌}
use Rattle.std.proofs.lemmas.List.{length-map, take_rest}
use denote.Ref.{Bor}
use Rattle.std.proofs.lemmas.Bool.{eq-eqb, ne_eqb}
use Rattle.cobol_syntax.specs.declared.statement.Statement.{Statement}
use Rattle.cobol_syntax.specs.declared.program.Paragraph.{Paragraph}
use Rattle.cobol_syntax.specs.declared.program.Sentence.{Sentence}
use Rattle.tree_reading.specs.Reading.{read_statement, read_statements, read_sentence, read_paragraph}
use Rattle.program_meaning.specs.Tree as tree
use Rattle.program_meaning.specs.Step.{step_at}
use Rattle.program_meaning.specs.State.{Task, Do, Frame, Next, before, point, settle, at_end}
use Rattle.run_control.specs.declared.task.Task as task
use Rattle.run_control.specs.declared.position.Position.{Position}
use Rattle.run_control.specs.Held.{Held, held, tasks_of, frames_of, next_with_list, next_of, task_before}
use Rattle.run_control.specs.Program.{Steps, Stops}
use Rattle.run_control.specs.Moves.{Stays}

-- a sentence is its statements
pub of_sentence : (fs : List Frame) (s : tree.Statements) (ss : List tree.Statements) (ps : List tree.Paragraph) →
    settle fs (point [] (s ∷ ss) ps) ≡ settle fs (point (before s []) ss ps)
of_sentence [] s ss ps = refl
of_sentence (f ∷ fs) s ss ps = refl

pub of_task : (fs : List Frame) (t : Task) (ts : List Task) (ss : List tree.Statements) (ps : List tree.Paragraph) →
    settle fs (point (t ∷ ts) ss ps) ≡ (point (t ∷ ts) ss ps, fs)
of_task [] t ts ss ps = refl
of_task (f ∷ fs) t ts ss ps = refl

-- where the newest PERFORM does not end, the next paragraph follows
pub of_paragraph : (fs : List Frame) (p : Paragraph) (ps : List Paragraph) → Stays fs (length (p ∷ ps)) →
    settle fs (point [] [] (map read_paragraph (p ∷ ps))) ≡ settle fs (point [] (map read_sentence p.sentences) (map read_paragraph ps))
of_paragraph [] p ps stays = refl
of_paragraph (f ∷ fs) p ps stays =
    ap (λ (b : Bool). cond {A = Next} b (settle fs f.goes_on) (settle (f ∷ fs) (point [] (map read_sentence p.sentences) (map read_paragraph ps))))
    (ap (λ (n : ℕ). f.after == n) (length-map (p ∷ ps) read_paragraph) ∙ ne_eqb f.after (length (p ∷ ps)) stays)

-- where it ends, the run goes on behind it
pub of_range : (f : Frame) (fs : List Frame) (ps : List Paragraph) → f.after ≡ length ps →
    settle (f ∷ fs) (point [] [] (map read_paragraph ps)) ≡ settle fs f.goes_on
of_range f fs [] ends = ap (λ (b : Bool). cond {A = Next} b (settle fs f.goes_on) at_end) (eq-eqb f.after 0 ends)
of_range f fs (p ∷ ps) ends =
    ap (λ (b : Bool). cond {A = Next} b (settle fs f.goes_on) (settle (f ∷ fs) (point [] (map read_sentence p.sentences) (map read_paragraph ps))))
    (ap (λ (n : ℕ). f.after == n) (length-map (p ∷ ps) read_paragraph) ∙ eq-eqb f.after (length (p ∷ ps)) ends)

-- else there the text ends
pub of_text : (fs : List Frame) → Stays fs 0 → settle fs (point [] [] []) ≡ at_end
of_text [] stays = refl
of_text (f ∷ fs) stays = ap (λ (b : Bool). cond {A = Next} b (settle fs f.goes_on) at_end) (ne_eqb f.after 0 stays)

-- the first statement of a list is a task
of_list : (fs : List Frame) (ts : List Task) (ss : List tree.Statements) (ps : List tree.Paragraph) (list : List Statement) (s : Statement) →
    1 ≤ length list → s ≡ get_or list 0 s →
    settle fs (point (before (read_statements list) ts) ss ps) ≡ (point (Do (read_statement s) ∷ before (read_statements (drop 1 list)) ts) ss ps, fs)
of_list fs ts ss ps [] s some first = absurd (omega arith)
of_list fs ts ss ps (x ∷ xs) s some first =
    of_task fs (Do (read_statement x)) (before (read_statements xs) ts) ss ps
    ∙ ap (λ (y : Statement). (point (Do (read_statement y) ∷ before (read_statements xs) ts) ss ps, fs)) (sym first)

pub of_front : (old new : Position) (list : List Statement) (s : Statement) → 1 ≤ length list → s ≡ get_or list 0 s →
    held new.entries.items ≡ record { tasks = before (read_statements (take (length list - 1) (drop 1 list))) (tasks_of old); frames = frames_of old } →
    new.sentences ≡ old.sentences → new.paragraphs ≡ old.paragraphs →
    next_with_list old list ≡ (point (Do (read_statement s) ∷ tasks_of new) (map read_sentence new.sentences.now) (map read_paragraph new.paragraphs.now), frames_of new)
of_front old new list s some first entries sentences paragraphs =
    of_list (frames_of old) (tasks_of old) (map read_sentence old.sentences.now) (map read_paragraph old.paragraphs.now) list s some first
    ∙ ap (λ (xs : List Statement). (point (Do (read_statement s) ∷ before (read_statements xs) (tasks_of old)) (map read_sentence old.sentences.now) (map read_paragraph old.paragraphs.now), frames_of old)) (sym (take_rest list 1))
    ∙ ap (λ (h : Held). (point (Do (read_statement s) ∷ h.tasks) (map read_sentence old.sentences.now) (map read_paragraph old.paragraphs.now), h.frames)) (sym entries)
    ∙ ap (λ (ss : Bor (List Sentence)). (point (Do (read_statement s) ∷ tasks_of new) (map read_sentence ss.now) (map read_paragraph old.paragraphs.now), frames_of new)) (sym sentences)
    ∙ ap (λ (ps : Bor (List Paragraph)). (point (Do (read_statement s) ∷ tasks_of new) (map read_sentence new.sentences.now) (map read_paragraph ps.now), frames_of new)) (sym paragraphs)

-- the step from a position whose next task is known
pub of_step : (p q : Position) (t : task.Task) → next_of p ≡ task_before t q → Steps p t q
of_step p q t e = λ program day w. ap (λ (n : Next). step_at program day n.0.tasks n.0 n.1 w) e

pub of_stop : (p : Position) → next_of p ≡ at_end → Stops p
of_stop p e = λ program day w. ap (λ (n : Next). step_at program day n.0.tasks n.0 n.1 w) e
