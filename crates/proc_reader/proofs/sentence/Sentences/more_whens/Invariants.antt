use Rattle.std.proofs.Common.{◌≡◌, ◌-◌, length}
use Rattle.proc_reader.specs.Evaluates.{more_whens, when}
use Rattle.proc_reader.specs.Trees.{either}
use Rattle.cond_reader.specs.Reads.{chain}
use Rattle.proc_reader.specs.View.{source_of}
use Rattle.proc_reader.proofs.sentence.Sentences.more_whens.Given as goal

abbrev pub invariant-loop-turn : goal.invariant-loop-turn
invariant-loop-turn l =
    more_whens (source_of l.self) l.level l.subject l.fn.test l.fn.at ≡ chain (λ _. when (source_of l.self) l.level l.subject) (either) (length l.self.parts.kinds.now - l._turn) l.test l.at
