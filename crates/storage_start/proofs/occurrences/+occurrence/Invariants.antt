use Rattle.std.proofs.Common.{◌≡◌, ◌+◌, ◌-◌, ◌*◌, length, map}
use Rattle.layout_reading.specs.Reading.{read_step}
use Rattle.program_meaning.specs.Start.{occurrences, spread}
use Rattle.storage_places.specs.Held.{held, first, lengths}
use Rattle.storage_start.specs.Writes.{writes}
use Rattle.storage_start.proofs.occurrences.+occurrence.Given as goal

abbrev pub decreases-set_each : goal.decreases-set_each
decreases-set_each l = 2 * length l.steps.now

abbrev pub decreases-set_elements : goal.decreases-set_elements
decreases-set_elements l = 2 * length l.more.now + 1

abbrev pub invariant-set_elements-loop-k : goal.invariant-set_elements-loop-k
invariant-set_elements-loop-k l = record {
  written : held l.storage ≡ writes (l.span.area.0 - first l.initial.storage) l.span.length (held l.initial.storage)
      (spread (occurrences (map read_step l.more)) l.step.size l.k l.span.offset) l.bytes;
  same_first : first l.storage ≡ first l.initial.storage;
  same_lengths : lengths (held l.storage) ≡ lengths (held l.initial.storage);
}
