use Rattle.conflict_chain.specs.Clashes.{AreConflictsUpTo}
use Rattle.conflict_chain.proofs.clash.conflicts.Given as goal

abbrev pub invariant-loop-index : goal.invariant-loop-index
invariant-loop-index l = AreConflictsUpTo l.seeds l.rules l.labelling l.index l.list
