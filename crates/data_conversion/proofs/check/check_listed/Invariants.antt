use Rattle.std.proofs.Common.{◌≡◌, ◌≤◌, length}
use Rattle.data_conversion.proofs.CheckLaws.{Goes}
use Rattle.data_conversion.proofs.check.check_listed.Given as goal

abbrev pub invariant-loop-rest : goal.invariant-loop-rest
invariant-loop-rest g l = record {
  later : g.S.Shelf.faults l.fn.shelf ≤ g.S.Shelf.faults l.shelf;
  same : g.S.Shelf.told l.shelf ≡ g.S.Shelf.told l.fn.shelf;
  goes : Goes l.plan.images l.files l.folder (g.S.Shelf.told l.fn.shelf) l.listed l.rest;
}

abbrev pub decreases-loop-rest : goal.decreases-loop-rest
decreases-loop-rest g l = length l.rest
