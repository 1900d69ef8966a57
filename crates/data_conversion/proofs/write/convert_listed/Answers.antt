use Rattle.std.proofs.Common.{rules, refl}
use Rattle.data_conversion.proofs.CheckLaws.{front}
use Rattle.data_conversion.proofs.WriteLaws.{one_taken, one_stopped, after_one, all_taken, apart_of, none_of}
use Rattle.data_conversion.proofs.write.convert_listed.Goals as goal

pub loop-rest-preserved : goal.loop-rest-preserved
loop-rest-preserved g c = record {
  later = search rules;
  goes = one_taken c.args.plan.now.images c.args.files.now c.args.folder.now c.args.out.now (g.S.Shelf.told c.args.shelf.now) c.args.listed.now c.loop-rest.rest.now (g.S.Shelf.told c.loop-rest.shelf) (g.S.Shelf.told c.convert_named.new.shelf) c.loop-rest.count c.named-item.result _ c.in-Ok.there c.in-Ok-one_more.next (front c.loop-rest.rest.now c.named-item.result c.in-len1-up.len_at_least c.named-item.is) c.loop-rest.invariant.goes c.in-Ok.ensures.taken c.in-Ok-one_more.ensures;
}

pub returns-in-Err-one_more-clause-stopped : goal.returns-in-Err-one_more-clause-stopped
returns-in-Err-one_more-clause-stopped g c =
    after_one c.args.plan.now.images c.args.files.now c.args.folder.now c.args.out.now (g.S.Shelf.told c.args.shelf.now) c.args.listed.now c.loop-rest.rest.now (g.S.Shelf.told c.loop-rest.shelf) (g.S.Shelf.told c.convert_named.new.shelf) c.loop-rest.count c.named-item.result _ c.in-Ok.there _ (front c.loop-rest.rest.now c.named-item.result c.in-len1-up.len_at_least c.named-item.is) c.loop-rest.invariant.goes c.in-Ok.ensures.taken refl

pub returns-in-Err-clause-stopped : goal.returns-in-Err-clause-stopped
returns-in-Err-clause-stopped g c =
    one_stopped c.args.plan.now.images c.args.files.now c.args.folder.now c.args.out.now (g.S.Shelf.told c.args.shelf.now) c.args.listed.now c.loop-rest.rest.now (g.S.Shelf.told c.loop-rest.shelf) (g.S.Shelf.told c.convert_named.new.shelf) c.loop-rest.count c.named-item.result _ c.in-Err.fault (front c.loop-rest.rest.now c.named-item.result c.in-len1-up.len_at_least c.named-item.is) c.loop-rest.invariant.goes c.in-Err.ensures.stopped

pub returns-clause-done : goal.returns-clause-done
returns-clause-done g c =
    all_taken c.args.plan.now.images c.args.files.now c.args.folder.now c.args.out.now (g.S.Shelf.told c.args.shelf.now) c.args.listed.now c.loop-rest.rest.now (g.S.Shelf.told c.loop-rest.shelf) c.loop-rest.count (none_of c.loop-rest.rest.now c.in_default.len_below) c.loop-rest.invariant.goes

pub returns-clause-apart : goal.returns-clause-apart
returns-clause-apart g c =
    apart_of c.args.plan.now.images c.args.files.now c.args.folder.now c.args.out.now c.args.listed.now (g.S.Shelf.told c.args.shelf.now) (g.S.Shelf.told c.loop-rest.shelf) c.loop-rest.count (returns-clause-done g c)
