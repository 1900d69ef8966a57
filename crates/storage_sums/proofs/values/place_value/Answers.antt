use Rattle.std.proofs.Common.{◌≡◌, ℕ, ap, sym, subst, ◌∙◌}
use Rattle.data_layout.specs.declared.item.Layout.{Layout}
use Rattle.layout_reading.specs.Reading.{read_span, first_area}
use Rattle.place_table.specs.Tables.{layout_of, Failed}
use Rattle.place_table.specs.Views.{picture_at, read_view}
use Rattle.program_meaning.specs.Arithmetic as meant
use Rattle.program_meaning.specs.Storage.{read}
use Rattle.program_meaning.specs.Tree as tree
use Rattle.storage_places.specs.declared.fault.RunFault.{RunFault}
use Rattle.storage_places.specs.Held.{held, first}
use Rattle.storage_places.specs.Meets.{Meets}
use Rattle.storage_places.specs.Reached.{kind_with}
use Rattle.tree_reading.specs.Reading.{read_place}
use Rattle.storage_sums.specs.Stores.{exact_in}
use Rattle.storage_sums.proofs.FailLaws.{meets, fails_first, fails_then, err_carried}
use Rattle.storage_sums.proofs.values.place_value.Goals as goal

pub returns-in_err-view-clause-err : goal.returns-in_err-view-clause-err
returns-in_err-view-clause-err c =
    err_carried (Failed (layout_of c.args.places.now) (λ l. meant.operand_value l (held c.args.storage.now) (tree.At (read_place c.args.place.now)))) c.from_residual.result c.in_err-view.field-0.0 c.from_residual.ensures.1
    (λ program. fails_first _ _ _ (c.in_err-view.ensures.err program))

pub returns-in_err-number-clause-err : goal.returns-in_err-number-clause-err
returns-in_err-number-clause-err c =
    let e : RunFault = c.in_err-number.field-0.0 in
    let picture = picture_at c.view.new.self c.in_ok-view.view.number in
    let same : first c.args.storage.now ≡ first_area (layout_of c.view.new.self).areas =
    c.requires.storage.first ∙ ap (λ (l : Layout). first_area l.areas) (sym c.in_ok-view.ensures.grown.layout) in
    err_carried (Failed (layout_of c.args.places.now) (λ l. meant.operand_value l (held c.args.storage.now) (tree.At (read_place c.args.place.now)))) c.from_residual-in_err-number.result e c.from_residual-in_err-number.ensures.1
    (λ program. fails_then _ _ (read_view c.view.new.self c.in_ok-view.view) e (c.in_ok-view.ensures.ok program)
    (meets _ e (subst (λ (k : ℕ). Meets (exact_in (kind_with c.in_ok-view.view.kind picture) (read (held c.args.storage.now) (read_span k c.in_ok-view.view.span))) e) same (c.in_err-number.ensures.err picture))))
