use Rattle.std.proofs.Common.{length}
use Rattle.place_table.proofs.same.+same_subs.Given as goal

abbrev pub decreases-same_subs : goal.decreases-same_subs
decreases-same_subs l = length l.left.now
