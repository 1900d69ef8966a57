use Rattle.std.proofs.Common.{◌≡◌, length}
use Rattle.std.specs.List.{AllByRecursion}
use Rattle.data_layout.specs.Index.{IsReady}
use Rattle.seed_file.specs.Seeds.{layout_of}
use Rattle.seed_file.proofs.meaning.layout_of.Given as goal

abbrev pub invariant-loop-rest : goal.invariant-loop-rest
invariant-loop-rest l = (layout_of l.rest l.others l.name ≡ layout_of l.programs l.layouts l.name) × AllByRecursion IsReady l.others

abbrev pub decreases-loop-rest : goal.decreases-loop-rest
decreases-loop-rest l = length l.rest
