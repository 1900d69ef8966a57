use Rattle.std.proofs.Common.{refl}
use Rattle.data_conversion.proofs.WriteLaws.{at_once}
use Rattle.data_conversion.proofs.write.convert_data.Goals as goal

pub returns-in-Err-clause-stopped : goal.returns-in-Err-clause-stopped
returns-in-Err-clause-stopped g c =
    at_once c.args.plan.now.images c.args.files.now c.args.folder.now c.args.out.now c.args.listed.now (g.S.Shelf.told c.args.shelf.now) (g.S.Shelf.told c.args.shelf.now) _ refl refl
