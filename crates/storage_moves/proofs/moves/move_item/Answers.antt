use Rattle.std.proofs.Common.{◌∙◌}
use Rattle.program_meaning.specs.Moves as meant
use Rattle.program_meaning.specs.Storage.{kind_of}
use Rattle.layout_reading.specs.Reading.{read_layout}
use Rattle.place_table.specs.Tables.{layout_of, Failed}
use Rattle.storage_places.specs.Held.{held}
use Rattle.tree_reading.specs.Reading.{read_operand, read_place}
use Rattle.storage_moves.proofs.FaultLaws.{carried, unsent, undelivered}
use Rattle.storage_moves.proofs.moves.move_item.Goals as goal

pub returns-in_err-sent-clause-err : goal.returns-in_err-sent-clause-err
returns-in_err-sent-clause-err c =
    let layout = layout_of c.args.places.now in
    let store = held c.args.storage.now in
    let from = read_operand c.args.from.now in
    let to = read_place c.args.to.now in
    let fault = c.in_err-sent.field-0.0 in
    carried (Failed layout (λ l. meant.move l store from to)) c.from_residual-in_err-sent.result fault c.from_residual-in_err-sent.ensures.1
    (unsent layout store from to c.receiver_of.result fault (λ program. c.receiver_of.ensures (kind_of (read_layout program layout) to) (c.in_ok-kind.ensures.kind program))
    (layout_of c.kind.new.self) c.in_ok-kind.ensures.grown.layout c.in_err-sent.ensures.err)

pub returns-in_err-deliver-clause-err : goal.returns-in_err-deliver-clause-err
returns-in_err-deliver-clause-err c =
    let layout = layout_of c.args.places.now in
    let store = held c.args.storage.now in
    let from = read_operand c.args.from.now in
    let to = read_place c.args.to.now in
    let fault = c.in_err-deliver.field-0.0 in
    carried (Failed layout (λ l. meant.move l store from to)) c.from_residual-in_err-deliver.result fault c.from_residual-in_err-deliver.ensures.1
    (undelivered layout store from to c.receiver_of.result fault (λ program. c.receiver_of.ensures (kind_of (read_layout program layout) to) (c.in_ok-kind.ensures.kind program))
    (layout_of c.kind.new.self) (layout_of c.send.new.places) c.in_ok-sent.sent c.in_ok-kind.ensures.grown.layout (c.in_ok-sent.ensures.grown.layout ∙ c.in_ok-kind.ensures.grown.layout)
    c.in_ok-sent.ensures.ok c.in_err-deliver.ensures.err)
