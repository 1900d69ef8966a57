use Rattle.std.proofs.Common.{◌≡◌, ℕ, List, Some, subst}
use Rattle.data_conversion.specs.Numbers.{cuts_for}
use Rattle.data_conversion.proofs.WriteLaws.{taken_of, stopped_of}
use Rattle.data_conversion.proofs.write.convert_named.Goals as goal

pub returns-in-Ok-clause-taken : goal.returns-in-Ok-clause-taken
returns-in-Ok-clause-taken g c =
    taken_of c.args.plan.now.images c.args.files.now c.args.folder.now c.args.out.now (g.S.Shelf.told c.args.shelf.now) (g.S.Shelf.told c.convert_with.new.shelf) c.args.named.now c.in-Some.cuts.now c.in-Ok.there
    (subst (λ (key : List ℕ). cuts_for c.args.plan.now.images c.args.files.now key ≡ Some c.in-Some.cuts.now) c.items.ensures c.in-Some.ensures.cuts) c.in-Ok.ensures.taken

pub returns-in-Err-clause-stopped : goal.returns-in-Err-clause-stopped
returns-in-Err-clause-stopped g c =
    stopped_of c.args.plan.now.images c.args.files.now c.args.folder.now c.args.out.now (g.S.Shelf.told c.args.shelf.now) (g.S.Shelf.told c.convert_with.new.shelf) c.args.named.now c.in-Some.cuts.now c.in-Err.fault
    (subst (λ (key : List ℕ). cuts_for c.args.plan.now.images c.args.files.now key ≡ Some c.in-Some.cuts.now) c.items.ensures c.in-Some.ensures.cuts) c.in-Err.ensures.stopped
