use Rattle.std.proofs.Common.{subst, sym, List, Contains}
use Rattle.label_spread.specs.declared.slots.Slot.{Slot}
use Rattle.label_spread.specs.Slots.{slot_cmp}
use Rattle.label_spread.proofs.Blocks.{slot_exact}
use Rattle.year_labels.proofs.Keys.{insert_key-new, insert_key-old}
use Rattle.label_spread.proofs.slots.insert_slot.Goals as goal

pub returns-clause-there : goal.returns-clause-there
returns-clause-there c =
    subst (λ (ks : List Slot). Contains ks c.args.slot) (sym c.in_ok-insert.ensures.keys) (insert_key-new slot_cmp slot_exact c.args.slots.now.keys c.args.slot)

pub returns-clause-kept : goal.returns-clause-kept
returns-clause-kept c = λ other h.
    subst (λ (ks : List Slot). Contains ks other) (sym c.in_ok-insert.ensures.keys) (insert_key-old slot_cmp slot_exact c.args.slots.now.keys c.args.slot other h)
