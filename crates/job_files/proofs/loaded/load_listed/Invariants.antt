use Rattle.std.proofs.Common.{◌≡◌, ◌≤◌, length}
use Rattle.seq_files.specs.Disks.{disks}
use Rattle.job_files.proofs.LoadLaws.{Goes}
use Rattle.job_files.proofs.loaded.load_listed.Given as goal

abbrev pub invariant-loop-rest : goal.invariant-loop-rest
invariant-loop-rest g l = record {
  same : g.S.Shelf.told l.shelf ≡ g.S.Shelf.told l.fn.shelf;
  later : g.S.Shelf.faults l.fn.shelf ≤ g.S.Shelf.faults l.shelf;
  goes : Goes (g.S.Shelf.told l.fn.shelf) l.folder l.listed l.files l.rest (disks l.store);
}

abbrev pub decreases-loop-rest : goal.decreases-loop-rest
decreases-loop-rest g l = length l.rest
