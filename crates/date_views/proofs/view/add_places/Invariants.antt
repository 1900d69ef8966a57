use Rattle.std.proofs.Common.{◌≡◌, ◌++◌, replicate}
use Rattle.date_views.proofs.view.add_places.Given as goal

abbrev pub invariant-loop : goal.invariant-loop
invariant-loop l = l.places ≡ l.fn.places ++ replicate l.counter l.digit
