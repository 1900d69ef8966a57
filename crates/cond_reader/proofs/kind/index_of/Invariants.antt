use Rattle.std.proofs.Common.{take}
use Rattle.cond_reader.specs.Kinds.{IsIndexOf}
use Rattle.cond_reader.proofs.kind.index_of.Given as goal

abbrev pub invariant-loop-name : goal.invariant-loop-name
invariant-loop-name l = IsIndexOf l.index.keys (λ key. key.now) (take l.name-index l.name-items)
