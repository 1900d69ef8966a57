use Rattle.std.proofs.Common.{◌∙◌}
use Rattle.std.proofs.lemmas.List.{with_items_is}
use Rattle.layout_reading.specs.Reading.{read_span}
use Rattle.program_channels.specs.Channel.{read_channel}
use Rattle.storage_places.specs.Held.{first}
use Rattle.file_statements.proofs.DoneLaws.{done-read}
use Rattle.file_statements.proofs.done.read_file.Goals as goal

pub returns-clause-done : goal.returns-clause-done
returns-clause-done c =
    done-read (read_channel c.args.channel) c.args.unit.now (record { places = c.args.unit.now.places; storage = c.put_record.new.storage; store = c.read-status.new.self }) c.read-status.result
    (read_span (first c.args.unit.now.storage) c.in_ok-span.span) c.as_mut_slice.result.now c.as_slice.result.now c.in_ok-span.ensures.area c.in_ok-span.ensures.start c.read-status.ensures.status
    c.read-status.ensures.disk
    (c.as_slice.ensures.value ∙ with_items_is c.in_ok-record.record c.read-status.new.into (c.read-status.auto.into ∙ c.as_mut_slice.ensures.len) ∙ c.read-status.ensures.got)
    c.put_record.ensures.held
