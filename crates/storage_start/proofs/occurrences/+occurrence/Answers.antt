use Rattle.std.proofs.Common.{ℕ, ◌-◌, ◌+◌, ◌*◌, map, ap, ◌∙◌}
use Rattle.y2k_base.specs.declared.place.Span.{Span}
use Rattle.layout_reading.specs.Reading.{read_step}
use Rattle.program_meaning.specs.Start.{occurrences}
use Rattle.storage_places.specs.Held.{held, first}
use Rattle.storage_start.specs.Writes.{writes}
use Rattle.storage_start.proofs.Elements.{one-element}
use Rattle.storage_start.proofs.occurrences.+occurrence.Goals as goal

pub set_elements-loop-k-preserved : goal.set_elements-loop-k-preserved
set_elements-loop-k-preserved t c =
    let span = c.args.span in
    let f = occurrences (map read_step c.args.more.now) in
    let now = held c.loop-k.storage in
    let bytes = c.args.bytes.now in
    record {
      written = one-element (span.area.0 - first c.args.storage.now) span.length bytes (held c.args.storage.now) now (held c.set_each.new.storage) f c.args.step.size c.loop-k.k span.offset
          c.loop-k.invariant.written
          (c.set_each.ensures.held
          ∙ ap (λ (e : Span). writes (e.area.0 - first c.loop-k.storage) e.length now (f e.offset) bytes) c.element.ensures
          ∙ ap (λ (n : ℕ). writes (span.area.0 - n) span.length now (f (span.offset + c.loop-k.k * c.args.step.size)) bytes) c.loop-k.invariant.same_first);
      same_first = c.set_each.ensures.first ∙ c.loop-k.invariant.same_first;
      same_lengths = c.set_each.ensures.lengths ∙ c.loop-k.invariant.same_lengths;
    }
