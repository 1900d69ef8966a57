use Rattle.std.proofs.Common.{◌≡◌, length}
use Rattle.proc_reader.specs.Evaluates.{tied}
use Rattle.proc_reader.proofs.evaluate.tied.Given as goal

abbrev pub invariant-loop-group : goal.invariant-loop-group
invariant-loop-group l = tied l.program l.end l.fn.groups l.fn.other ≡ tied l.program l.end l.groups.items l.other

abbrev pub decreases-loop-group : goal.decreases-loop-group
decreases-loop-group l = length l.groups.items
