use Rattle.std.proofs.Common.{◌≡◌, Some, None, refl, sym}
use Rattle.file_convert.specs.Cuts.{first_untame}
use Rattle.file_convert.proofs.UntameLemmas.{tame_from_none, none_from_tame}
use Rattle.file_convert.proofs.record.write_tame.Goals as goal

pub returns-in-Some-clause-tame : goal.returns-in-Some-clause-tame
returns-in-Some-clause-tame c =
    let cuts = c.args.cuts.now in
    let source = c.args.source.now in
    let found : Some c.in-Some.cut ≡ first_untame cuts.list source = c.in-Some.ensures in (
      λ h. absurd (cc),
      λ t. let none : first_untame cuts.list source ≡ None = none_from_tame 0 cuts.length cuts.list source c.requires.order.2 c.requires.long t in absurd (cc),
    )

pub returns-in-None-clause-tame : goal.returns-in-None-clause-tame
returns-in-None-clause-tame c =
    let cuts = c.args.cuts.now in
    let source = c.args.source.now in
    let none : None ≡ first_untame cuts.list source = c.in-None.ensures in
    (λ h. tame_from_none 0 cuts.length cuts.list source c.requires.order.2 c.requires.long (sym none), λ t. refl)
