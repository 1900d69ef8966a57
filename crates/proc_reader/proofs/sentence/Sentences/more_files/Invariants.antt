use Rattle.std.proofs.Common.{◌≡◌, ◌-◌, length}
use Rattle.proc_reader.specs.Files.{more_files}
use Rattle.cond_reader.specs.Places.{name}
use Rattle.cond_reader.specs.Reads.{with_last}
use Rattle.cond_reader.specs.Reads.{chain}
use Rattle.proc_reader.specs.View.{source_of}
use Rattle.proc_reader.proofs.sentence.Sentences.more_files.Given as goal

abbrev pub invariant-loop-turn : goal.invariant-loop-turn
invariant-loop-turn l =
    more_files (source_of l.self) l.fn.files l.fn.at ≡ chain (λ _. name (source_of l.self).text) (with_last) (length l.self.parts.kinds.now - l._turn) l.files l.at
