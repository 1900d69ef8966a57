use Rattle.std.proofs.Common.{◌≡◌, length}
use Rattle.std.specs.Prelude.{map}
use Rattle.statement_places.specs.Parts.{seen}
use Rattle.window_rewrite.specs.Old.{old_of}
use Rattle.window_rewrite.specs.Differences.{has_windowed}
use Rattle.window_rewrite.proofs.difference.has_windowed.Given as goal

abbrev pub invariant-loop-rest : goal.invariant-loop-rest
invariant-loop-rest l = has_windowed (old_of l.fn.site) (map seen l.rest) ≡ has_windowed (old_of l.fn.site) (map seen l.fn.group)

abbrev pub decreases-loop-rest : goal.decreases-loop-rest
decreases-loop-rest l = length l.rest
