use Rattle.std.proofs.Common.{Some}
use Rattle.place_table.specs.Tables.{layout_of, Failed}
use Rattle.program_meaning.specs.Arithmetic as meant
use Rattle.program_meaning.specs.Storage.{Storage}
use Rattle.storage_places.specs.declared.fault.RunFault.{RunFault}
use Rattle.storage_places.specs.Held.{held}
use Rattle.tree_reading.specs.Reading.{read_place}
use Rattle.storage_sums.proofs.FailLaws.{fails_first, err_carried}
use Rattle.storage_sums.proofs.writing.received.Goals as goal

pub returns-in_err-view-clause-err : goal.returns-in_err-view-clause-err
returns-in_err-view-clause-err c =
    err_carried (λ (e : RunFault). (s : Storage) → Failed (layout_of c.args.places.now) (λ l. meant.written_rest l (held c.args.storage.now) (Some (read_place c.args.place.now)) c.args.number s) e)
    c.from_residual.result c.in_err-view.field-0.0 c.from_residual.ensures.1
    (λ s program. fails_first _ _ _ (c.in_err-view.ensures.err program))
