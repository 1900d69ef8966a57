use Rattle.std.proofs.Common.{◌≡◌, ℕ, ◌+◌, ◌<◌, ◌++◌, ◌∷◌, [], List, take, length, get_or, sym, ap, ◌∙◌, arith}
use Rattle.file_convert.specs.declared.cut.Cut.{Cut}
use Rattle.file_convert.proofs.CutLemmas.{no_cut}
use Rattle.plan_images.specs.Edges.{growth, growths, sums_from}
use Rattle.plan_images.proofs.Sums.{growth_low, growths-more, sums-more}
use Rattle.plan_images.proofs.table.sums_of.Goals as goal

pub overflow_add-sum : goal.overflow_add-sum
overflow_add-sum c =
    let cs = c.args.cuts.now.list in
    let i = c.loop-i.i in
    let within : i < length cs = omega (arith, ap length c.items-list.ensures) in
    let more : c.growth_of-sum.result ≡ growth (get_or cs i no_cut) = c.growth_of-sum.ensures ∙ ap (λ (l : List Cut). growth (get_or l i no_cut)) c.items-list.ensures in
    omega (arith, more, c.loop-i.invariant.1, growth_low c.args.cuts.now i no_cut c.requires within)

pub loop-i-preserved : goal.loop-i-preserved
loop-i-preserved c =
    let cs = c.args.cuts.now.list in
    let i = c.loop-i.i in
    let within : i < length cs = omega (arith, ap length c.items-list.ensures) in
    let more : c.growth_of-sum.result ≡ growth (get_or cs i no_cut) = c.growth_of-sum.ensures ∙ ap (λ (l : List Cut). growth (get_or l i no_cut)) c.items-list.ensures in
    let sum : c.loop-i.sum + c.growth_of-sum.result ≡ growths (take i cs) + growth (get_or cs i no_cut) = omega (arith, more, c.loop-i.invariant.1) in (
      c.in_ok-push-2.ensures.ok ∙ ap (λ (l : List ℕ). l ++ (c.loop-i.sum + c.growth_of-sum.result) ∷ []) c.loop-i.invariant.0
          ∙ ap (λ (n : ℕ). sums_from 0 (take i cs) ++ n ∷ []) sum ∙ sym (sums-more cs i no_cut within),
      sum ∙ sym (growths-more cs i no_cut within),
    )
