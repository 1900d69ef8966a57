use Rattle.window_items.proofs.Rest.{all_items}
use Rattle.window_items.proofs.group.items_of.Goals as goal

pub returns-clause-items : goal.returns-clause-items
returns-clause-items c = all_items _ _ _ _ c.in_default.len_below c.loop-rest.invariant
