use Rattle.job_files.proofs.ShelfLaws.{written, begun}
use Rattle.job_files.proofs.written.write_at.Goals as goal

pub returns-in-Ok-append-clause-written : goal.returns-in-Ok-append-clause-written
returns-in-Ok-append-clause-written g c =
    written c.args.name.now c.args.bytes.now (g.S.Shelf.told c.args.shelf.now) (g.S.Shelf.told c.create.new.self) (g.S.Shelf.told c.append.new.self) c.in-Ok.ensures.ok c.in-Ok-append.ensures.ok

pub returns-in-Err-append-clause-left : goal.returns-in-Err-append-clause-left
returns-in-Err-append-clause-left g c =
    begun c.args.name.now c.args.bytes.now (g.S.Shelf.told c.args.shelf.now) (g.S.Shelf.told c.create.new.self) (g.S.Shelf.told c.append.new.self) c.in-Ok.ensures.ok c.in-Err-append.ensures.err
