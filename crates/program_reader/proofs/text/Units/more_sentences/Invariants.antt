use Rattle.std.proofs.Common.{◌≡◌, ◌-◌, length}
use Rattle.program_reader.specs.Programs.{each}
use Rattle.program_reader.specs.Procedures.{more_sentences, next_sentence}
use Rattle.program_reader.specs.Procedures.{begins_sentence}
use Rattle.program_reader.specs.View.{view_of}
use Rattle.proc_reader.specs.View.{source_of}
use Rattle.program_reader.proofs.text.Units.more_sentences.Given as goal

abbrev pub invariant-loop-turn : goal.invariant-loop-turn
invariant-loop-turn l =
    more_sentences (view_of l.self) (source_of l.sentences) l.fn.body l.fn.at ≡ each (begins_sentence (view_of l.self)) (next_sentence (view_of l.self) (source_of l.sentences)) (length l.self.terms.now - l._turn) l.body l.at
