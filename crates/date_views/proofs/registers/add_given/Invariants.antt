use Rattle.std.proofs.Common.{◌≡◌, ◌++◌}
use Rattle.date_views.specs.Moves as spec
use Rattle.date_views.proofs.registers.add_given.Given as goal

abbrev pub invariant-loop-power : goal.invariant-loop-power
invariant-loop-power l = l.rules ≡ l.fn.rules ++ spec.given l.at l.from l.view l.power
