use Rattle.std.proofs.Common.{◌≡◌, ℕ, ◌+◌, ◌-◌, List, Some, get_or, sym, ap, ◌∙◌, arith}
use Rattle.std.proofs.lemmas.Option.{slice_get-get_or}
use Rattle.file_convert.specs.declared.cut.Cut.{Cut}
use Rattle.plan_images.proofs.table.Table.last_of.Goals as goal

pub returns-else-count-eq0 : goal.returns-else-count-eq0
returns-else-count-eq0 c =
    let cs = c.args.self.now.cuts.list in
    let k : ℕ = c.args.count - 1 in
    let positive : k + 1 ≡ c.args.count = omega (arith, c.if-count-eq0.false) in
    (k, positive, slice_get-get_or cs k _ (omega (arith, positive, c.requires)) ∙ ap (λ (l : List Cut). Some (get_or l k _)) (sym c.items.ensures))
