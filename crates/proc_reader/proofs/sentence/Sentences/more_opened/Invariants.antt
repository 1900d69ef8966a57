use Rattle.std.proofs.Common.{◌≡◌, ◌-◌, length}
use Rattle.proc_reader.specs.Files.{more_opened, file_of_mode}
use Rattle.proc_reader.specs.Files.{one_more}
use Rattle.cond_reader.specs.Reads.{chain}
use Rattle.proc_reader.specs.View.{source_of}
use Rattle.proc_reader.proofs.sentence.Sentences.more_opened.Given as goal

abbrev pub invariant-loop-turn : goal.invariant-loop-turn
invariant-loop-turn l =
    more_opened (source_of l.self) l.fn.opened l.fn.at ≡ chain (λ opened. file_of_mode (source_of l.self) opened.mode) (one_more) (length l.self.parts.kinds.now - l._turn) l.opened l.at
