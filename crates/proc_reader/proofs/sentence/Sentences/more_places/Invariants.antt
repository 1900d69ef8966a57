use Rattle.std.proofs.Common.{◌≡◌, ◌-◌, length}
use Rattle.cond_reader.specs.Places.{place}
use Rattle.cond_reader.specs.Reads.{chain, with_last}
use Rattle.proc_reader.specs.Moves.{more_places}
use Rattle.proc_reader.specs.View.{source_of}
use Rattle.proc_reader.proofs.sentence.Sentences.more_places.Given as goal

abbrev pub invariant-loop-turn : goal.invariant-loop-turn
invariant-loop-turn l =
    more_places (source_of l.self) l.level l.fn.places l.fn.at ≡ chain (λ _. place (source_of l.self).text l.level) with_last (length l.self.parts.kinds.now - l._turn) l.places l.at
