use Rattle.std.proofs.Common.{ℕ, ◌<◌, ◌≤◌}
use Rattle.year_labels.specs.Roles.{HoldsPower}
use Rattle.label_spread.proofs.bytes.bytes_limit.Given as goal

abbrev pub invariant-loop-i : goal.invariant-loop-i
invariant-loop-i l = (l.limit ≤ 256) × ((k power : ℕ) → k < l.i → HoldsPower l.powers k power → power < l.limit)
