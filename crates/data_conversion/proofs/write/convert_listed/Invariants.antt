use Rattle.std.proofs.Common.{◌≤◌, length}
use Rattle.data_conversion.proofs.WriteLaws.{Goes}
use Rattle.data_conversion.proofs.write.convert_listed.Given as goal

abbrev pub invariant-loop-rest : goal.invariant-loop-rest
invariant-loop-rest g l = record {
  later : g.S.Shelf.faults l.fn.shelf ≤ g.S.Shelf.faults l.shelf;
  goes : Goes l.plan.images l.files l.folder l.out (g.S.Shelf.told l.fn.shelf) l.listed l.rest (g.S.Shelf.told l.shelf) l.count;
}

abbrev pub decreases-loop-rest : goal.decreases-loop-rest
decreases-loop-rest g l = length l.rest
