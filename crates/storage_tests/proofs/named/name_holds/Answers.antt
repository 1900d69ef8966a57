use Rattle.std.proofs.Common.{◌≡◌, List, Err, map, sym, ap, ◌∙◌, rules}
use Rattle.cobol_syntax.specs.declared.program.Range as tree_range
use Rattle.data_layout.specs.declared.item.Layout as tables
use Rattle.layout_reading.specs.Reading.{read_layout, first_area}
use Rattle.program_meaning.specs.Answer.{Answer, and_then}
use Rattle.program_meaning.specs.Compare.{has_value}
use Rattle.program_meaning.specs.Layout.{Layout, Values}
use Rattle.program_meaning.specs.Storage.{View}
use Rattle.place_table.specs.Tables.{layout_of}
use Rattle.place_table.specs.Views.{picture_at, read_view, ranges_at}
use Rattle.storage_places.specs.Held.{held, first}
use Rattle.tree_reading.specs.Reading.{read_place, read_values}
use Rattle.storage_tests.specs.Seen.{seen}
use Rattle.storage_tests.proofs.CompareLaws.{asked, name-asks, seen-values}
use Rattle.storage_tests.proofs.Faults.{fails-first, fails-then, same-fault, failed-before, gave-before, exits}
use Rattle.storage_tests.proofs.named.name_holds.Goals as goal

pub returns-in_err-named-clause-err : goal.returns-in_err-named-clause-err
returns-in_err-named-clause-err c =
    let e : c.from_residual.result ≡ Err c.in_err-named.field-0.0 = search rules in
    exits _ _ _ e (λ program.
    same-fault _ _ _ (name-asks (read_layout program (layout_of c.args.places.now)) (held c.args.storage.now) (read_place c.args.place.now))
    (fails-first _ _ _ (c.in_err-named.ensures.err program)))

pub returns-in_err-holds-clause-err : goal.returns-in_err-holds-clause-err
returns-in_err-holds-clause-err c =
    let e : c.from_residual-in_err-holds.result ≡ Err c.in_err-holds.field-0.0 = search rules in
    let v = c.in_ok-named.named.view in
    let here : first_area (layout_of c.named.new.self).areas ≡ first c.args.storage.now =
    ap (λ (l : tables.Layout). first_area l.areas) c.named.ensures.grown.layout ∙ sym c.requires.storage.first in
    let same : ranges_at (layout_of c.args.places.now) c.in_ok-named.named.name ≡ c.ranges-ranges.result.now =
    ap (λ (l : tables.Layout). ranges_at l c.in_ok-named.named.name) (sym c.named.ensures.grown.layout) ∙ sym c.ranges-ranges.ensures in
    exits _ _ _ e (λ program.
    let l = read_layout program (layout_of c.args.places.now) in
    same-fault _ _ _ (name-asks l (held c.args.storage.now) (read_place c.args.place.now))
    (fails-then _ (asked l (held c.args.storage.now)) _ _ (c.in_ok-named.ensures.ok program)
    (same-fault _ _ _
    (ap (λ (rs : List tree_range.Range). has_value l (held c.args.storage.now) (read_view c.named.new.self v) (map read_values rs)) same
    ∙ seen-values l c.args.storage.now v (picture_at c.named.new.self v.number) _ (map read_values c.ranges-ranges.result.now) here)
    (failed-before (λ (l : Layout). has_value l (held c.args.storage.now) (seen c.args.storage.now v) (map read_values c.ranges-ranges.result.now)) _ _ _
    c.named.ensures.grown.layout c.in_err-holds.ensures.err program))))

pub returns-clause-ok : goal.returns-clause-ok
returns-clause-ok c =
    let v = c.in_ok-named.named.view in
    let here : first_area (layout_of c.named.new.self).areas ≡ first c.args.storage.now =
    ap (λ (l : tables.Layout). first_area l.areas) c.named.ensures.grown.layout ∙ sym c.requires.storage.first in
    let same : ranges_at (layout_of c.args.places.now) c.in_ok-named.named.name ≡ c.ranges-ranges.result.now =
    ap (λ (l : tables.Layout). ranges_at l c.in_ok-named.named.name) (sym c.named.ensures.grown.layout) ∙ sym c.ranges-ranges.ensures in
    λ program.
    let l = read_layout program (layout_of c.args.places.now) in
    name-asks l (held c.args.storage.now) (read_place c.args.place.now)
    ∙ ap (λ (a : Answer (View × List Values)). and_then a (asked l (held c.args.storage.now))) (c.in_ok-named.ensures.ok program)
    ∙ ap (λ (rs : List tree_range.Range). has_value l (held c.args.storage.now) (read_view c.named.new.self v) (map read_values rs)) same
    ∙ seen-values l c.args.storage.now v (picture_at c.named.new.self v.number) _ (map read_values c.ranges-ranges.result.now) here
    ∙ gave-before (λ (l : Layout). has_value l (held c.args.storage.now) (seen c.args.storage.now v) (map read_values c.ranges-ranges.result.now)) _ _ _
    c.named.ensures.grown.layout c.in_ok-holds.ensures.ok program
