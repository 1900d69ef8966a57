use Rattle.std.proofs.Common.{◌∙◌}
use Rattle.data_layout.proofs.Checked.{items-past-name}
use Rattle.data_layout.proofs.rules.holds_items.Goals as goal

pub loop-entry-preserved : goal.loop-entry-preserved
loop-entry-preserved c =
    items-past-name c.args.around c.loop-entry.rest.now c.in-Some.inner.now c.in-Some.entry.now c.in-Some.ensures.some c.if-entry-ne-NAMED.false ∙ c.loop-entry.invariant
