use Rattle.std.proofs.Common.{◌≡◌, ◌≤◌, length}
use Rattle.gathered.proofs.Rest.{Goes}
use Rattle.gathered.proofs.shelved.read_listed.Given as goal

abbrev pub invariant-loop-rest : goal.invariant-loop-rest
invariant-loop-rest g l = record {
  same : g.S.Shelf.told l.shelf ≡ g.S.Shelf.told l.fn.shelf;
  later : g.S.Shelf.faults l.fn.shelf ≤ g.S.Shelf.faults l.shelf;
  goes : Goes l.folder l.used (g.S.Shelf.told l.fn.shelf) l.listed l.shelved l.rest;
}

abbrev pub decreases-loop-rest : goal.decreases-loop-rest
decreases-loop-rest g l = length l.rest
