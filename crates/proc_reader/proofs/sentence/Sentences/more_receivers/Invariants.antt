use Rattle.std.proofs.Common.{◌≡◌, ◌-◌, length}
use Rattle.proc_reader.specs.Arithmetic.{more_receivers, receiver}
use Rattle.proc_reader.specs.Arithmetic.{one_more}
use Rattle.cond_reader.specs.Reads.{chain}
use Rattle.proc_reader.specs.View.{source_of}
use Rattle.proc_reader.proofs.sentence.Sentences.more_receivers.Given as goal

abbrev pub invariant-loop-turn : goal.invariant-loop-turn
invariant-loop-turn l =
    more_receivers (source_of l.self) l.level l.fn.receivers l.fn.at ≡ chain (λ _. receiver (source_of l.self) l.level) (one_more) (length l.self.parts.kinds.now - l._turn) l.receivers l.at
