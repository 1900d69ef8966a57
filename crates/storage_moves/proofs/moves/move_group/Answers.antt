use Rattle.program_meaning.specs.Answer.{Gives}
use Rattle.program_meaning.specs.Layout as layout
use Rattle.program_meaning.specs.Moves as meant
use Rattle.program_meaning.specs.Storage.{View, view, write}
use Rattle.place_table.specs.Tables.{layout_of, Failed}
use Rattle.storage_places.specs.Held.{held}
use Rattle.tree_reading.specs.Reading.{read_place}
use Rattle.storage_moves.proofs.FaultLaws.{carried, fails-first}
use Rattle.storage_moves.proofs.moves.move_group.Goals as goal

pub returns-in_err-view-clause-err : goal.returns-in_err-view-clause-err
returns-in_err-view-clause-err c =
    let store = held c.args.storage.now in
    let place = read_place c.args.to.now in
    let bytes = c.args.from.now in
    let fault = c.in_err-view.field-0.0 in
    carried (Failed (layout_of c.args.places.now) (λ l. meant.move_group l store bytes place)) c.from_residual.result fault c.from_residual.ensures.1
    (fails-first (layout_of c.args.places.now) (λ (l : layout.Layout). view l store place)
    (λ (l : layout.Layout) (v : View). Gives (write store v.span (meant.received v.kind v.span.count (meant.Bytes bytes)))) fault c.in_err-view.ensures.err)
