use Rattle.window_items.proofs.Rest.{all_groups, fault_of_group, goes_to}
use Rattle.window_items.proofs.group.groups_of.Goals as goal

pub loop-rest-preserved : goal.loop-rest-preserved
loop-rest-preserved c =
    goes_to _ _ _ _ c.group-item.result c.loop-rest.rest.now c.in-len1-up.len_at_least c.group-item.is c.in-Ok.ensures.added c.loop-rest.invariant

pub returns-in-Err-clause-fault : goal.returns-in-Err-clause-fault
returns-in-Err-clause-fault c =
    fault_of_group _ _ _ c.group-item.result c.loop-rest.rest.now _ c.in-len1-up.len_at_least c.group-item.is c.in-Err.ensures.fault c.loop-rest.invariant

pub returns-clause-windows : goal.returns-clause-windows
returns-clause-windows c = all_groups _ _ _ _ c.in_default.len_below c.loop-rest.invariant
