use Rattle.std.proofs.Common.{ℕ, ◌<◌, Contains, get_or}
use Rattle.y2k_base.specs.declared.place.BytePlace.{BytePlace}
use Rattle.year_labels.specs.declared.rule.RuleInst.{RuleInst}
use Rattle.label_spread.specs.Slots.{slot_of, LooksAt}
use Rattle.label_spread.proofs.slots.index_rules.Given as goal

abbrev pub invariant-loop-rule : goal.invariant-loop-rule
invariant-loop-rule l = (k : ℕ) (d : RuleInst) (place : BytePlace) → k < l.rule → LooksAt (get_or l.rules k d).form place → Contains l.slots.keys (slot_of place k)
