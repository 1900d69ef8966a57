use Rattle.std.proofs.Common.{List, sym, subst, arith}
use Rattle.file_convert.specs.declared.cut.Cut.{Cut}
use Rattle.file_convert.specs.Cuts.{IsInOrderFrom}
use Rattle.file_convert.proofs.CutLemmas.{fits_at}
use Rattle.file_convert.proofs.record.find_untame.Goals as goal

pub is_tame_in-requires-clause-fits : goal.is_tame_in-requires-clause-fits
is_tame_in-requires-clause-fits c =
    let P : List Cut → Type 0 = λ l. IsInOrderFrom 0 c.args.cuts.now.length l in
    (fits_at 0 c.args.cuts.now.length c.items-cut-items.result.now c.loop-cut.cut-index (subst P (sym c.items-cut-items.ensures) c.requires.order.2) c.loop-cut-test.true).0

pub is_tame_in-requires-clause-inside : goal.is_tame_in-requires-clause-inside
is_tame_in-requires-clause-inside c =
    let P : List Cut → Type 0 = λ l. IsInOrderFrom 0 c.args.cuts.now.length l in
    omega (arith, (fits_at 0 c.args.cuts.now.length c.items-cut-items.result.now c.loop-cut.cut-index (subst P (sym c.items-cut-items.ensures) c.requires.order.2) c.loop-cut-test.true).1, c.requires.long)
