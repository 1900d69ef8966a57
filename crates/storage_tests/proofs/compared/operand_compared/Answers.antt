use Rattle.std.proofs.Common.{◌≡◌, Err, ap, rules}
use Rattle.program_meaning.specs.Compare.{operand_compared}
use Rattle.program_meaning.specs.Layout.{Layout}
use Rattle.program_meaning.specs.Tree as tree
use Rattle.place_table.specs.Tables.{layout_of}
use Rattle.storage_places.specs.Held.{held}
use Rattle.tree_reading.specs.Reading.{read_place, read_operand}
use Rattle.storage_tests.proofs.Faults.{fails-first, failed-at, exits}
use Rattle.storage_tests.proofs.compared.operand_compared.Goals as goal

pub returns-in_err-bytes-in-Place-clause-err : goal.returns-in_err-bytes-in-Place-clause-err
returns-in_err-bytes-in-Place-clause-err c =
    let e : c.from_residual.result ≡ Err c.in_err-bytes-in-Place.field-0.0 = search rules in
    let place : read_operand c.args.operand.now ≡ tree.At (read_place c.in-Place.place) = ap read_operand c.in-Place.is in
    exits _ _ _ e
    (failed-at (λ (o : tree.Operand) (l : Layout). operand_compared l (held c.args.storage.now) o) _ _ (layout_of c.args.places.now) _ place
    (λ program. fails-first _ _ _ (c.in_err-bytes-in-Place.ensures.err program)))
