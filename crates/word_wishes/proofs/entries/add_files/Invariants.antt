use Rattle.std.proofs.Common.{◌≡◌, ◌++◌, length}
use Rattle.word_wishes.specs.Entries as spec
use Rattle.word_wishes.proofs.entries.add_files.Given as goal

abbrev pub invariant-loop-files_left : goal.invariant-loop-files_left
invariant-loop-files_left l = l.wishes ++ spec.files_wishes l.index l.source.number l.source.words.now l.files_left l.areas_left ≡ l.fn.wishes ++ spec.files_wishes l.index l.source.number l.source.words.now l.files l.areas

abbrev pub decreases-loop-files_left : goal.decreases-loop-files_left
decreases-loop-files_left l = length l.files_left
