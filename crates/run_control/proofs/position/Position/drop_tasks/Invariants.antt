use Rattle.std.proofs.Common.{◌≡◌}
use Rattle.run_control.specs.Held.{frames_of}
use Rattle.run_control.specs.Work.{entries_work}
use Rattle.run_control.proofs.position.Position.drop_tasks.Given as goal

abbrev pub invariant-loop-frame : goal.invariant-loop-frame
invariant-loop-frame l = record {
  frames : frames_of l.self ≡ frames_of l.fn.self;
  sentences : l.self.sentences ≡ l.fn.self.sentences;
  paragraphs : l.self.paragraphs ≡ l.fn.self.paragraphs;
}

abbrev pub decreases-loop-frame : goal.decreases-loop-frame
decreases-loop-frame l = entries_work l.self.entries.items
