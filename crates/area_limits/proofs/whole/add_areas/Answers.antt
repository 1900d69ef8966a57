use Rattle.area_limits.proofs.Apart.{full_both}
use Rattle.area_limits.proofs.whole.add_areas.Goals as goal

pub returns-clause-limits : goal.returns-clause-limits
returns-clause-limits c =
    let first = rw (c.items-words.ensures, c.items-items.ensures, c.items.ensures) at c.in_ok-own.ensures.limits in
    let sum = rw (c.items-words.ensures, c.items-items.ensures, c.items.ensures) at c.in_ok-own.ensures.sum in
    let next = rw (c.procedure_origin.ensures, c.items-words.ensures) at c.in_ok-sum.ensures.limits in
    full_both _ _ _ _ _ _ _ first sum next
