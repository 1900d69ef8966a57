use Rattle.data_conversion.proofs.WriteLaws.{measured}
use Rattle.data_conversion.proofs.write.convert_at.Goals as goal

pub returns-in-Err-clause-stopped : goal.returns-in-Err-clause-stopped
returns-in-Err-clause-stopped g c =
    measured c.args.cuts.now c.args.named.now.key c.args.name.now c.args.to.now (g.S.Shelf.told c.args.shelf.now) (g.S.Shelf.told c.size.new.self) c.in-Err.error c.shelf_fault.result c.shelf_fault.ensures c.in-Err.ensures.same
