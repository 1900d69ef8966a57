use Rattle.std.proofs.Common.{map, sym}
use Rattle.layout_reading.specs.Reading.{read_item, read_step}
use Rattle.program_meaning.specs.Answer.{Data}
use Rattle.program_meaning.specs.Moves.{sent}
use Rattle.program_meaning.specs.Start.{occurrences}
use Rattle.layout_reading.specs.Kinds.{read_kind}
use Rattle.storage_places.specs.Held.{held}
use Rattle.tree_reading.specs.Reading.{read_operand}
use Rattle.storage_start.proofs.Received.{with-none, no-data}
use Rattle.storage_start.proofs.starting.put_operand.Goals as goal

pub returns-in-Err-Data-clause-held : goal.returns-in-Err-Data-clause-held
returns-in-Err-Data-clause-held c = λ l m v same.
    with-none (read_item l c.args.item.now v) (held c.args.storage.now) (occurrences (map read_step c.args.item.now.steps) c.args.item.now.span.offset)
    (sent m (held c.args.storage.now) (read_operand c.args.operand.now) (read_kind c.args.item.now)) Data
    (no-data c.in-Err-Data.field-0 (sent m (held c.args.storage.now) (read_operand c.args.operand.now) (read_kind c.args.item.now)) c.in-Err-Data.field-0-is
    (c.in-Err-Data.ensures.given m (held c.args.storage.now) (read_kind c.args.item.now) (sym c.receiver.ensures)))
