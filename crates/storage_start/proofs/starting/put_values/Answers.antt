use Rattle.std.proofs.Common.{map, sym, ◌∙◌}
use Rattle.storage_places.specs.Held.{held}
use Rattle.storage_start.specs.Literals.{value_of}
use Rattle.storage_start.proofs.Received.{one-value}
use Rattle.storage_start.proofs.starting.put_values.Goals as goal

pub loop-i-preserved : goal.loop-i-preserved
loop-i-preserved c = record {
  valued = λ l m same.
      one-value l m c.args.items.now c.loop-i.i c.index-items-i.result (map value_of c.args.values.now) (value_of c.value_at.result) (held c.loop-i.storage) (held c.put_value.new.storage)
      c.loop-i-test.true c.index-items-i.is c.value_at.ensures.value
      (c.in_ok-put_value.ensures.held l m (same ∙ sym c.loop-i.invariant.same_first))
      ∙ c.loop-i.invariant.valued l m same;
  same_first = c.in_ok-put_value.ensures.first ∙ c.loop-i.invariant.same_first;
  same_lengths = c.in_ok-put_value.ensures.lengths ∙ c.loop-i.invariant.same_lengths;
}
