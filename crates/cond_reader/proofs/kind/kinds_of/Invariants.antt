use Rattle.std.proofs.Common.{◌≡◌, take, map}
use Rattle.cond_reader.specs.Kinds.{kind_of}
use Rattle.cond_reader.proofs.kind.kinds_of.Given as goal

abbrev pub invariant-loop-word : goal.invariant-loop-word
invariant-loop-word l = l.kinds ≡ map (kind_of l.names.list) (take l.word-index l.words)
