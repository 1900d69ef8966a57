use Rattle.std.proofs.Common.{◌≡◌, ℕ, ◌+◌, suc, List, length, take, get_or, ap, ◌∙◌, arith}
use Rattle.plan_images.specs.Edges.{growths}
use Rattle.plan_images.proofs.Sums.{length-sums, sums-at, growths_low, count_low}
use Rattle.plan_images.proofs.table.Table.sum_of.Goals as goal

pub offset_bounds-items-count : goal.offset_bounds-items-count
offset_bounds-items-count c = omega (arith, c.requires.within, count_low c.args.self.now.cuts c.requires.sound.ordered)

pub bounds-items-count : goal.bounds-items-count
bounds-items-count c =
    let long : length c.items.result.now ≡ suc (length c.args.self.now.cuts.list) = ap length (c.items.ensures ∙ c.requires.sound.summed) ∙ length-sums 0 c.args.self.now.cuts.list in
    omega (arith, long, c.requires.within)

pub returns-clause-sum : goal.returns-clause-sum
returns-clause-sum c =
    let cs = c.args.self.now.cuts.list in
    let k = c.args.count in
    let e : 0 + growths (take k cs) ≡ growths (take k cs) = omega arith in
    ap (λ (l : List ℕ). get_or l k 0) (c.items.ensures ∙ c.requires.sound.summed) ∙ sums-at 0 cs k 0 c.requires.within ∙ e

pub returns-clause-low : goal.returns-clause-low
returns-clause-low c =
    let cs = c.args.self.now.cuts.list in
    let k = c.args.count in
    let is : get_or c.items.result.now k 0 ≡ 0 + growths (take k cs) = ap (λ (l : List ℕ). get_or l k 0) (c.items.ensures ∙ c.requires.sound.summed) ∙ sums-at 0 cs k 0 c.requires.within in
    omega (arith, is, growths_low k c.args.self.now.cuts c.requires.sound.ordered)
