use Rattle.std.proofs.Common.{◌≡◌, Some, replicate}
use Rattle.date_views.proofs.view.each_byte.Given as goal

abbrev pub invariant-loop : goal.invariant-loop
invariant-loop l = l.powers ≡ replicate l.counter (Some 0)
