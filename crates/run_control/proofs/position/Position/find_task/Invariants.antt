use Rattle.std.proofs.Common.{◌≡◌}
use Rattle.run_control.specs.Held.{next_of}
use Rattle.run_control.specs.Work.{work}
use Rattle.run_control.proofs.position.Position.find_task.Given as goal

abbrev pub invariant-loop-task : goal.invariant-loop-task
invariant-loop-task l = next_of l.self ≡ next_of l.fn.self

abbrev pub decreases-loop-task : goal.decreases-loop-task
decreases-loop-task l = work l.self
