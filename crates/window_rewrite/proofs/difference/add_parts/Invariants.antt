use Rattle.std.proofs.Common.{◌≡◌, ◌++◌, length}
use Rattle.std.specs.Prelude.{map}
use Rattle.statement_places.specs.Parts.{seen}
use Rattle.window_rewrite.specs.Old.{old_of}
use Rattle.window_rewrite.specs.Differences.{parts_words}
use Rattle.window_rewrite.proofs.difference.add_parts.Given as goal

abbrev pub invariant-loop-rest : goal.invariant-loop-rest
invariant-loop-rest l =
    l.into ++ parts_words (old_of l.fn.site) l.fn.at (map seen l.fn.group) (map seen l.rest)
    ≡ l.fn.into ++ parts_words (old_of l.fn.site) l.fn.at (map seen l.fn.group) (map seen l.fn.group)

abbrev pub decreases-loop-rest : goal.decreases-loop-rest
decreases-loop-rest l = length l.rest
