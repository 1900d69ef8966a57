use Rattle.std.proofs.Common.{◌≡◌, ◌++◌, take}
use Rattle.program_reader.proofs.read.copy_words.Given as goal

abbrev pub invariant-loop-word : goal.invariant-loop-word
invariant-loop-word l = l.copies ≡ l.initial.copies ++ take l.word-index l.words
