use Rattle.std.proofs.Common.{rules, ◌≡◌, List, Option, subst}
use Rattle.shelf.specs.Contents.{Files}
use Rattle.data_conversion.specs.Checked.{IsChecked}
use Rattle.data_conversion.proofs.CheckLaws.{front, one_checked}
use Rattle.data_conversion.proofs.check.check_listed.Goals as goal

pub loop-rest-preserved : goal.loop-rest-preserved
loop-rest-preserved g c =
    let checked : IsChecked c.args.plan.now.images c.args.files.now c.args.folder.now (g.S.Shelf.told c.args.shelf.now) c.named-item.result =
    subst (λ (told : Option Files). IsChecked c.args.plan.now.images c.args.files.now c.args.folder.now told c.named-item.result) c.loop-rest.invariant.same c.in-Ok.ensures.fit in
    record {
      later = search rules;
      same = search rules;
      goes = one_checked c.args.plan.now.images c.args.files.now c.args.folder.now (g.S.Shelf.told c.args.shelf.now) c.args.listed.now c.loop-rest.rest.now c.named-item.result _ (front c.loop-rest.rest.now c.named-item.result c.in-len1-up.len_at_least c.named-item.is) c.loop-rest.invariant.goes checked;
    }
