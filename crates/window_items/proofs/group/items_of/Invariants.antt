use Rattle.std.proofs.Common.{length}
use Rattle.name_tables.specs.Table.{held}
use Rattle.window_items.specs.Items.{meant_by}
use Rattle.window_items.proofs.Rest.{GoesItems}
use Rattle.window_items.proofs.group.items_of.Given as goal

abbrev pub invariant-loop-rest : goal.invariant-loop-rest
invariant-loop-rest l = GoesItems (meant_by (held l.numbers) l.layouts) l.texts l.items l.rest

abbrev pub decreases-loop-rest : goal.decreases-loop-rest
decreases-loop-rest l = length l.rest
