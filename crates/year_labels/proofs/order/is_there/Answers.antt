use Rattle.std.proofs.Common.{◌≡◌, refl, true, false}
use Rattle.year_labels.specs.Order.{fact_cmp}
use Rattle.year_labels.proofs.Total.{found, missing, rises, fact_total}
use Rattle.year_labels.proofs.order.is_there.Goals as goal

pub returns-in-Ok : goal.returns-in-Ok
returns-in-Ok c =
    (λ _. found c.args.facts.now c.requires c.args.fact c.in-Ok.field-0 c.in-Ok.ensures.range c.in-Ok.ensures.place, λ _. refl)

pub returns-in-Err : goal.returns-in-Err
returns-in-Err c =
    (λ e. absurd (let f : false ≡ true = e in cc), λ there. absurd (missing c.args.facts.now c.requires c.args.fact c.in-Err.field-0 c.in-Err.ensures.range (c.in-Err.ensures.place (rises fact_cmp fact_total c.args.facts.now c.args.fact c.requires)) there))
