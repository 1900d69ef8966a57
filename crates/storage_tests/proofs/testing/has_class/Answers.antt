use Rattle.std.proofs.Common.{◌≡◌, Bool, Err, ap, rules}
use Rattle.program_meaning.specs.Compare.{test}
use Rattle.program_meaning.specs.Layout.{Layout}
use Rattle.program_meaning.specs.Tree as tree
use Rattle.place_table.specs.Tables.{layout_of}
use Rattle.storage_places.specs.Held.{held}
use Rattle.tree_reading.specs.Reading.{read_class}
use Rattle.storage_tests.proofs.Faults.{fails-first, failed-at, exits}
use Rattle.storage_tests.proofs.testing.has_class.Goals as goal

pub returns-in_err-view-clause-err : goal.returns-in_err-view-clause-err
returns-in_err-view-clause-err c =
    let e : c.from_residual.result ≡ Err c.in_err-view.field-0.0 = search rules in
    exits _ _ _ e
    (failed-at (λ (x : tree.Condition) (l : Layout). test l (held c.args.storage.now) x) _ _ (layout_of c.args.places.now) _ (ap (λ (b : Bool). read_class b c.args.place.now) c.if-numeric.true)
    (λ program. fails-first _ _ _ (c.in_err-view.ensures.err program)))

pub returns-in_err-bytes-clause-err : goal.returns-in_err-bytes-clause-err
returns-in_err-bytes-clause-err c =
    let e : c.from_residual-in_err-bytes.result ≡ Err c.in_err-bytes.field-0.0 = search rules in
    exits _ _ _ e
    (failed-at (λ (x : tree.Condition) (l : Layout). test l (held c.args.storage.now) x) _ _ (layout_of c.args.places.now) _ (ap (λ (b : Bool). read_class b c.args.place.now) c.if-numeric.false)
    (λ program. fails-first _ _ _ (c.in_err-bytes.ensures.err program)))
