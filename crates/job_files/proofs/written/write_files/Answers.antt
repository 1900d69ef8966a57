use Rattle.std.proofs.Common.{refl}
use Rattle.seq_files.specs.Disks.{disks}
use Rattle.job_files.proofs.WriteLaws.{nothing_left}
use Rattle.job_files.proofs.written.write_files.Goals as goal

pub returns-in-Err-clause-left : goal.returns-in-Err-clause-left
returns-in-Err-clause-left g c =
    nothing_left c.args.out.now c.args.files.now (disks c.args.store.now) c.args.listed.now (g.S.Shelf.told c.args.shelf.now) (g.S.Shelf.told c.args.shelf.now) refl
