-- Turns of what is performed, with what follows them.
use Rattle.std.proofs.Common.{◌≡◌, ◌≤◌, ◌-◌, ℕ, zero, suc, Bool, true, false, cond, List, [], ◌∷◌, ◌++◌, Option, None, map, refl, ap, sym, ◌∙◌, arith}
use denote.Ref.{Bor}
use Rattle.cobol_syntax.specs.declared.program.Paragraph.{Paragraph}
use Rattle.cobol_syntax.specs.declared.program.Sentence.{Sentence}
use Rattle.tree_reading.specs.Reading.{read_sentence, read_paragraph}
use Rattle.program_meaning.specs.Tree as tree
use Rattle.program_meaning.specs.State.{Program, Loop, Task, Turn, Test, Point, Frame, World, point, on}
use Rattle.program_meaning.specs.Step.{Calendar, turn, times_turn, until_turn, begun, advanced, further, entered}
use Rattle.run_control.specs.declared.position.Position.{Position}
use Rattle.run_control.specs.Held.{Held, held, tasks_of, frames_of, point_of}

module _ (program : Program) (day : Calendar) where
  -- what follows a turn is in front of what is left
  turn_then : (what : tree.Performed) (next ts : List Task) (ss : List tree.Statements) (ps : List tree.Paragraph) (fs : List Frame) (w : World) →
      turn program day what next (point ts ss ps) fs w ≡ turn program day what [] (point (next ++ ts) ss ps) fs w
  turn_then (tree.Inline body) next ts ss ps fs w = refl
  turn_then (tree.Through first last) next ts ss ps fs w = refl

  -- what follows a turn can be put in front first
  pub turn_pushed : (what : tree.Performed) (next : List Task) (old mid : Position) (w : World) →
      held mid.entries.items ≡ record { tasks = next ++ tasks_of old; frames = frames_of old } →
      mid.sentences ≡ old.sentences → mid.paragraphs ≡ old.paragraphs →
      turn program day what next (point_of old) (frames_of old) w ≡ turn program day what [] (point_of mid) (frames_of mid) w
  turn_pushed what next old mid w entries sentences paragraphs =
      turn_then what next (tasks_of old) (map read_sentence old.sentences.now) (map read_paragraph old.paragraphs.now) (frames_of old) w
      ∙ ap (λ (h : Held). turn program day what [] (point h.tasks (map read_sentence old.sentences.now) (map read_paragraph old.paragraphs.now)) h.frames w) (sym entries)
      ∙ ap (λ (ss : Bor (List Sentence)). turn program day what [] (point (tasks_of mid) (map read_sentence ss.now) (map read_paragraph old.paragraphs.now)) (frames_of mid) w) (sym sentences)
      ∙ ap (λ (ps : Bor (List Paragraph)). turn program day what [] (point (tasks_of mid) (map read_sentence mid.sentences.now) (map read_paragraph ps.now)) (frames_of mid) w) (sym paragraphs)

  module _ (p : Point) (fs : List Frame) (w : World) where
    pub times_one : (id : tree.StatementId) (what : tree.Performed) (n : ℕ) → n ≡ 1 → times_turn program day id what n p fs w ≡ turn program day what [] p fs w
    times_one id what n one = ap (λ (k : ℕ). times_turn program day id what k p fs w) one

    -- where more than one turn is left, another follows
    pub times_more : (id : tree.StatementId) (what : tree.Performed) (n : ℕ) → 2 ≤ n →
        times_turn program day id what n p fs w ≡ turn program day what (Turn id what (n - 1) ∷ []) p fs w
    times_more id what zero some = absurd (omega arith)
    times_more id what (suc zero) some = absurd (omega arith)
    times_more id what (suc (suc n)) some =
        let e : suc n ≡ suc (suc n) - 1 = omega arith in
        ap (λ (k : ℕ). turn program day what (Turn id what k ∷ []) p fs w) e

    pub begun_after : (l : Loop) → l.after ≡ true → begun program day l p fs w ≡ until_turn program day l p fs w
    begun_after l after = ap (λ (b : Bool). cond b (until_turn program day l p fs w) (on fs (point (Test l ∷ p.tasks) p.sentences p.paragraphs) w)) after

    pub advanced_after : (l : Loop) → l.after ≡ true → advanced program day l p fs w ≡ until_turn program day l p fs w
    advanced_after l after = ap (λ (b : Bool). cond b (until_turn program day l p fs w) (on fs p w)) after

    pub further_before : (l : Loop) (b : Bool) (v : Option tree.Vary) → b ≡ false → further program day l b v p fs w ≡ until_turn program day l p fs w
    further_before l b v before = ap (λ (c : Bool). further program day l c v p fs w) before

    pub further_plain : (l : Loop) (b : Bool) (v : Option tree.Vary) → b ≡ true → v ≡ None → further program day l b v p fs w ≡ until_turn program day l p fs w
    further_plain l b v after plain =
        ap (λ (c : Bool). further program day l c v p fs w) after ∙ ap (λ (o : Option tree.Vary). further program day l true o p fs w) plain

    pub entered_plain : (l : Loop) (v : Option tree.Vary) → v ≡ None → entered program day l v p fs w ≡ begun program day l p fs w
    entered_plain l v plain = ap (λ (o : Option tree.Vary). entered program day l o p fs w) plain
