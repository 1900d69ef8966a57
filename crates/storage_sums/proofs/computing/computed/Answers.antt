use Rattle.std.proofs.Common.{Option, IfOk, IfErr, sym, ◌∙◌, subst}
use Rattle.std.proofs.lemmas.Result.{IfErr-weaker, IfOk-weaker}
use Rattle.cobol_syntax.specs.declared.place.Place.{Place}
use Rattle.exact_arithmetic.specs.Answers.{read_outcome}
use Rattle.layout_reading.specs.Reading.{read_layout}
use Rattle.number_bytes.specs.Held.{read_form}
use Rattle.place_table.specs.Tables.{layout_of, Gave, Failed}
use Rattle.program_meaning.specs.Arithmetic as meant
use Rattle.storage_places.specs.Held.{held}
use Rattle.tree_reading.specs.Reading.{read_expr, read_place, place_if}
use Rattle.storage_sums.proofs.DivisionLaws.{computed_division, computed_simple}
use Rattle.storage_sums.proofs.FailLaws.{fails_by}
use Rattle.storage_sums.proofs.computing.computed.Goals as goal

pub returns-in-None-clause-err : goal.returns-in-None-clause-err
returns-in-None-clause-err c =
    subst (λ (rest : Option Place). IfErr c.simple.result (Failed (layout_of c.args.places.now) (λ l. meant.computed l (held c.args.storage.now) c.args.how.rounded (read_form c.args.how.form) c.args.how.phrase (read_expr c.args.expr.now) (place_if rest))))
    (sym c.in-None.is) c.simple.ensures.err

pub returns-in-Some-division_of-clause-err : goal.returns-in-Some-division_of-clause-err
returns-in-Some-division_of-clause-err c =
    let store = held c.args.storage.now in
    let form = read_form c.args.how.form in
    let x = read_expr c.args.expr.now in
    subst (λ (rest : Option Place). IfErr c.divided.result (Failed (layout_of c.args.places.now) (λ l. meant.computed l store c.args.how.rounded form c.args.how.phrase x (place_if rest))))
    (sym c.in-Some.is)
    (IfErr-weaker c.divided.result _ _
    (λ e fails program. fails_by _ _ e
    (computed_division (read_layout program (layout_of c.args.places.now)) store c.args.how.rounded form c.args.how.phrase x (read_place c.in-Some.place) (read_expr c.in-Some-division_of.dividend.now) (read_expr c.in-Some-division_of.divisor.now)
    c.in-Some-division_of.ensures) (fails program)) c.divided.ensures.err)

pub returns-in-None-division_of-clause-ok : goal.returns-in-None-division_of-clause-ok
returns-in-None-division_of-clause-ok c =
    let store = held c.args.storage.now in
    let form = read_form c.args.how.form in
    let x = read_expr c.args.expr.now in
    subst (λ (rest : Option Place). IfOk c.simple-in-None-division_of.result (λ o. Gave (layout_of c.args.places.now) (λ l. meant.computed l store c.args.how.rounded form c.args.how.phrase x (place_if rest)) (read_outcome o)))
    (sym c.in-Some.is)
    (IfOk-weaker c.simple-in-None-division_of.result _ _
    (λ o gave program. computed_simple (read_layout program (layout_of c.args.places.now)) store c.args.how.rounded form c.args.how.phrase x (read_place c.in-Some.place) c.in-None-division_of.ensures ∙ gave program) c.simple-in-None-division_of.ensures.ok)

pub returns-in-None-division_of-clause-err : goal.returns-in-None-division_of-clause-err
returns-in-None-division_of-clause-err c =
    let store = held c.args.storage.now in
    let form = read_form c.args.how.form in
    let x = read_expr c.args.expr.now in
    subst (λ (rest : Option Place). IfErr c.simple-in-None-division_of.result (Failed (layout_of c.args.places.now) (λ l. meant.computed l store c.args.how.rounded form c.args.how.phrase x (place_if rest))))
    (sym c.in-Some.is)
    (IfErr-weaker c.simple-in-None-division_of.result _ _
    (λ e fails program. fails_by _ _ e (computed_simple (read_layout program (layout_of c.args.places.now)) store c.args.how.rounded form c.args.how.phrase x (read_place c.in-Some.place) c.in-None-division_of.ensures) (fails program)) c.simple-in-None-division_of.ensures.err)
