use Rattle.std.proofs.Common.{◌≡◌, ℕ, List, Some, subst}
use Rattle.data_conversion.specs.Numbers.{cuts_for}
use Rattle.data_conversion.proofs.CheckLaws.{fit_of, unfit_of}
use Rattle.data_conversion.proofs.check.check_named.Goals as goal

pub returns-in-Ok-clause-fit : goal.returns-in-Ok-clause-fit
returns-in-Ok-clause-fit g c =
    fit_of c.args.plan.now.images c.args.files.now c.args.folder.now (g.S.Shelf.told c.args.shelf.now) c.args.named.now c.in-Some.cuts.now
    (subst (λ (key : List ℕ). cuts_for c.args.plan.now.images c.args.files.now key ≡ Some c.in-Some.cuts.now) c.items.ensures c.in-Some.ensures.cuts) c.in-Ok.ensures.fit

pub returns-in-Err-clause-fault : goal.returns-in-Err-clause-fault
returns-in-Err-clause-fault g c =
    unfit_of c.args.plan.now.images c.args.files.now c.args.folder.now (g.S.Shelf.told c.args.shelf.now) c.args.named.now c.in-Some.cuts.now c.in-Err.fault
    (subst (λ (key : List ℕ). cuts_for c.args.plan.now.images c.args.files.now key ≡ Some c.in-Some.cuts.now) c.items.ensures c.in-Some.ensures.cuts) c.in-Err.ensures.fault
