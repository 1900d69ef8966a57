use Rattle.std.proofs.Common.{◌≡◌, take}
use Rattle.std.specs.Prelude.{map}
use Rattle.proc_reader.specs.Keywords.{keyword_of}
use Rattle.proc_reader.proofs.keyword.keywords_of.Given as goal

abbrev pub invariant-loop-word : goal.invariant-loop-word
invariant-loop-word l = l.keywords ≡ map keyword_of (take l.word-index l.fn.words)
