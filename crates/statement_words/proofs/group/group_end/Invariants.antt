use Rattle.std.proofs.Common.{◌≡◌, map, length}
use Rattle.statement_places.specs.Parts.{seen}
use Rattle.statement_words.specs.Groups.{last_end, group_end}
use Rattle.statement_words.proofs.group.group_end.Given as goal

abbrev pub invariant-loop-rest : goal.invariant-loop-rest
invariant-loop-rest l = last_end l.end (map seen l.rest) ≡ group_end (map seen l.group)

abbrev pub decreases-loop-rest : goal.decreases-loop-rest
decreases-loop-rest l = length l.rest
