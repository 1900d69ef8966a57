use Rattle.std.proofs.Common.{◌≤◌, length}
use Rattle.seq_files.specs.Disks.{disks}
use Rattle.job_files.proofs.WriteLaws.{Goes}
use Rattle.job_files.proofs.written.write_numbered.Given as goal

abbrev pub invariant-loop-rest : goal.invariant-loop-rest
invariant-loop-rest g l = record {
  later : g.S.Shelf.faults l.fn.shelf ≤ g.S.Shelf.faults l.shelf;
  goes : Goes l.out l.files (disks l.store) l.listed (g.S.Shelf.told l.fn.shelf) l.rest (g.S.Shelf.told l.shelf);
}

abbrev pub decreases-loop-rest : goal.decreases-loop-rest
decreases-loop-rest g l = length l.rest
