use Rattle.std.proofs.Common.{◌≡◌, ◌+◌, ◌≤◌, List, drop, get_or, ap, arith}
use Rattle.std.proofs.lemmas.List.{at_drop_all}
use Rattle.file_convert.specs.declared.cut.Cut.{Cut}
use Rattle.file_convert.proofs.CutLemmas.{growths, growth_le, no_cut, growths_le, grown_size-pieces}
use Rattle.file_convert.proofs.cut.Cuts.image_length.Goals as goal

pub overflow_add-total : goal.overflow_add-total
overflow_add-total c =
    let cs : List Cut = c.items-cut-items.result.now in
    let le : 0 + growths c.args.self.now.list ≤ c.args.self.now.length = growths_le 0 c.args.self.now.length c.args.self.now.list c.requires.2 in
    let same : growths cs ≡ growths c.args.self.now.list = ap growths c.items-cut-items.ensures in
    let small : c.grown_width.result ≤ c.width.result + 2 = growth_le (get_or cs c.loop-cut.cut-index no_cut) _ _ c.grown_width.ensures c.width.ensures in
    omega (arith, c.requires.1)

pub returns : goal.returns
returns c =
    let cs : List Cut = c.items-cut-items.result.now in
    let last : growths (drop c.loop-cut.cut-index cs) ≡ 0 = at_drop_all growths cs c.loop-cut.cut-index c.loop-cut-test.false in
    let same : growths cs ≡ growths c.args.self.now.list = ap growths c.items-cut-items.ensures in
    omega (arith, grown_size-pieces 0 c.args.self.now.length c.args.self.now.list c.requires.2)
