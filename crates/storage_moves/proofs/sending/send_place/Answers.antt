use Rattle.program_meaning.specs.Layout as layout
use Rattle.program_meaning.specs.Moves as meant
use Rattle.program_meaning.specs.Storage.{View, view, bytes_at}
use Rattle.program_meaning.specs.Tree as tree
use Rattle.layout_reading.specs.Reading.{read_layout}
use Rattle.place_table.specs.Tables.{layout_of}
use Rattle.storage_places.specs.Held.{held}
use Rattle.tree_reading.specs.Reading.{read_place}
use Rattle.storage_moves.specs.Given.{FailsTo}
use Rattle.storage_moves.proofs.FaultLaws.{carried, may-meet-then}
use Rattle.storage_moves.proofs.sending.send_place.Goals as goal

pub returns-in_err-view-clause-err : goal.returns-in_err-view-clause-err
returns-in_err-view-clause-err c =
    let store = held c.args.storage.now in
    let place = read_place c.args.from.now in
    let fault = c.in_err-view.field-0.0 in
    carried (FailsTo (layout_of c.args.places.now) store (tree.At place) c.args.to) c.from_residual.result fault c.from_residual.ensures.1
    (λ program k is.
    let l : layout.Layout = read_layout program (layout_of c.args.places.now) in
    may-meet-then (view l store place) (λ (v : View). meant.sent_bytes v.kind k (bytes_at l store v)) fault (c.in_err-view.ensures.err program))
