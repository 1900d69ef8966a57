use Rattle.std.proofs.Common.{ℕ, List, ◌-◌, map, sym, ap, ◌∙◌}
use Rattle.data_layout.specs.declared.item.Step.{Step}
use Rattle.layout_reading.specs.Kinds.{read_kind}
use Rattle.layout_reading.specs.Reading.{read_item, read_step}
use Rattle.program_meaning.specs.Moves.{received}
use Rattle.program_meaning.specs.Start.{occurrences}
use Rattle.storage_places.specs.Held.{held, first}
use Rattle.storage_start.specs.Writes.{writes}
use Rattle.storage_start.proofs.Received.{with-sent}
use Rattle.storage_start.proofs.starting.put_sent.Goals as goal

pub returns-clause-held : goal.returns-clause-held
returns-clause-held c = λ l v s same sends.
    let item = c.args.item.now in
    let store = held c.args.storage.now in
    let os = occurrences (map read_step item.steps) item.span.offset in
    c.set_each.ensures.held
    ∙ ap (λ (steps : List Step). writes (item.span.area.0 - first c.args.storage.now) item.span.length store (occurrences (map read_step steps) item.span.offset) c.deref.result.now) c.items.ensures
    ∙ ap (λ (bytes : List ℕ). writes (item.span.area.0 - first c.args.storage.now) item.span.length store os bytes) (c.deref.ensures.value ∙ c.in_ok-bytes.ensures.received s sends)
    ∙ ap (λ (n : ℕ). writes (item.span.area.0 - n) item.span.length store os (received (read_kind item) item.span.length s)) (sym same)
    ∙ sym (with-sent (read_item l item v) s store os)
