use Rattle.std.proofs.Common.{arith, ◌≡◌, ◌<◌, ◌+◌, Some, [], length}
use Rattle.run_control.specs.declared.task.Frame.{Frame}
use Rattle.run_control.specs.declared.position.Position.{Position}
use Rattle.run_control.specs.Held.{next_of, next_with, frames_of, tasks_of, read_frame}
use Rattle.run_control.specs.Work.{work, frame_work}
use Rattle.run_control.proofs.Settled.{of_range}
use Rattle.run_control.proofs.position.Position.leave_paragraph.Goals as goal

back : (p q : Position) (f : Frame) → p.sentences.now ≡ [] → f.after ≡ length p.paragraphs.now → q.entries ≡ p.entries →
    q.sentences.now ≡ f.sentences.now → q.paragraphs.now ≡ f.paragraphs.now → next_with p (Some f) ≡ next_of q
back p q f none ends entries sentences paragraphs =
    rw (none, entries, sentences, paragraphs) (of_range (read_frame (tasks_of p) f) (frames_of p) p.paragraphs.now ends)

less : (p q : Position) (f : Frame) → q.entries ≡ p.entries →
    q.sentences.now ≡ f.sentences.now → q.paragraphs.now ≡ f.paragraphs.now → work q < work p + frame_work (Some f)
less p q f entries sentences paragraphs = rw (entries, sentences, paragraphs) (omega arith)

pub returns-then-frame-self : goal.returns-then-frame-self
returns-then-frame-self c =
    rw c.in-Some.is (
      back c.args.self.now c.go_back.new.self c.in-Some.frame c.requires.sentences c.if-frame-self.true c.go_back.ensures.entries c.go_back.ensures.sentences c.go_back.ensures.paragraphs,
      less c.args.self.now c.go_back.new.self c.in-Some.frame c.go_back.ensures.entries c.go_back.ensures.sentences c.go_back.ensures.paragraphs,
    )
