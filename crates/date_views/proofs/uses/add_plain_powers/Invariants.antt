use Rattle.std.proofs.Common.{◌≡◌, ◌-◌, ◌++◌}
use Rattle.date_views.specs.Uses as spec
use Rattle.date_views.proofs.uses.add_plain_powers.Given as goal

abbrev pub invariant-loop-power : goal.invariant-loop-power
invariant-loop-power l = l.rules ≡ l.fn.rules ++ spec.plain_powers l.at l.view l.low (l.power - l.low)
