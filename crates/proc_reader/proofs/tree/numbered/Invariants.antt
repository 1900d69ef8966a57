use Rattle.std.proofs.Common.{◌≡◌}
use Rattle.proc_reader.specs.Trees.{numbered}
use Rattle.proc_reader.proofs.tree.numbered.Given as goal

abbrev pub invariant-loop-form : goal.invariant-loop-form
invariant-loop-form l = l.statements ≡ numbered l.program l.at l.end l.first l.yielded
