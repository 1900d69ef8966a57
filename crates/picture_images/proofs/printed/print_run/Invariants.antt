use Rattle.std.proofs.Common.{◌≡◌, ◌++◌, replicate}
use Rattle.picture_images.proofs.printed.print_run.Given as goal

abbrev pub invariant-loop : goal.invariant-loop
invariant-loop l = l.text ≡ l.fn.text ++ replicate l.counter l.run.symbol
