use Rattle.std.proofs.Common.{◌≡◌, take}
use Rattle.picture.specs.Printing.{printed}
use Rattle.picture_images.proofs.printed.print_runs.Given as goal

abbrev pub invariant-loop-run : goal.invariant-loop-run
invariant-loop-run l = l.text ≡ printed (take l.run-index l.runs)
