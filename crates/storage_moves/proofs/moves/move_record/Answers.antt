use Rattle.std.proofs.Common.{refl}
use Rattle.program_meaning.specs.Answer.{Gives}
use Rattle.program_meaning.specs.Layout as layout
use Rattle.program_meaning.specs.Kind as kind
use Rattle.program_meaning.specs.Moves as meant
use Rattle.program_meaning.specs.Storage.{write}
use Rattle.layout_reading.specs.Reading.{read_span, first_area}
use Rattle.place_table.specs.Tables.{layout_of, Failed}
use Rattle.storage_places.specs.Held.{held}
use Rattle.tree_reading.specs.Reading.{read_operand}
use Rattle.storage_moves.proofs.FaultLaws.{carried, fails-first}
use Rattle.storage_moves.proofs.moves.move_record.Goals as goal

pub returns-in_err-sent-clause-err : goal.returns-in_err-sent-clause-err
returns-in_err-sent-clause-err c =
    let store = held c.args.storage.now in
    let from = read_operand c.args.from.now in
    let to = read_span (first_area (layout_of c.args.places.now).areas) c.args.to in
    let fault = c.in_err-sent.field-0.0 in
    carried (Failed (layout_of c.args.places.now) (λ l. meant.move_record l store from to)) c.from_residual.result fault c.from_residual.ensures.1
    (fails-first (layout_of c.args.places.now) (λ (l : layout.Layout). meant.sent l store from kind.Group)
    (λ (l : layout.Layout) (s : meant.Sent). Gives (write store to (meant.received kind.Group to.count s))) fault (λ program. c.in_err-sent.ensures.err program kind.Group refl))
