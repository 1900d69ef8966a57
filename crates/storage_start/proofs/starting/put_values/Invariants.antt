use Rattle.std.proofs.Common.{◌≡◌, drop, map}
use Rattle.data_layout.specs.declared.item.Layout.{Layout}
use Rattle.layout_reading.specs.Reading.{first_area, read_items}
use Rattle.program_meaning.specs.Layout as meant
use Rattle.program_meaning.specs.Start.{with_values}
use Rattle.storage_places.specs.Held.{held, first, lengths}
use Rattle.storage_start.specs.Literals.{value_of}
use Rattle.storage_start.proofs.starting.put_values.Given as goal

abbrev pub invariant-loop-i : goal.invariant-loop-i
invariant-loop-i l = record {
  valued : (layout : Layout) (m : meant.Layout) → first_area layout.areas ≡ first l.initial.storage →
      with_values m (read_items layout (drop l.i l.items) (drop l.i (map value_of l.values))) (held l.storage)
      ≡ with_values m (read_items layout l.items (map value_of l.values)) (held l.initial.storage);
  same_first : first l.storage ≡ first l.initial.storage;
  same_lengths : lengths (held l.storage) ≡ lengths (held l.initial.storage);
}
