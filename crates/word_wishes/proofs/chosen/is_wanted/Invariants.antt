use Rattle.std.proofs.Common.{◌≡◌, length}
use Rattle.std.specs.List.{list_any}
use Rattle.word_wishes.specs.Chosen as spec
use Rattle.word_wishes.proofs.chosen.is_wanted.Given as goal

abbrev pub invariant-loop-rest : goal.invariant-loop-rest
invariant-loop-rest l = list_any (spec.wants l.words) l.rest ≡ list_any (spec.wants l.words) l.wishes

abbrev pub decreases-loop-rest : goal.decreases-loop-rest
decreases-loop-rest l = length l.rest
