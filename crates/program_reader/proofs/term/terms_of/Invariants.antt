use Rattle.std.proofs.Common.{◌≡◌, take, map}
use Rattle.program_reader.specs.Terms.{term_of}
use Rattle.program_reader.proofs.term.terms_of.Given as goal

abbrev pub invariant-loop-word : goal.invariant-loop-word
invariant-loop-word l = l.terms ≡ map term_of (take l.word-index l.words)
