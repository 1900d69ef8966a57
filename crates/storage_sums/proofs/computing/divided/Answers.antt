use Rattle.std.proofs.Common.{◌≡◌, sym, ◌∙◌, subst}
use Rattle.data_layout.specs.declared.item.Layout.{Layout}
use Rattle.exact_arithmetic.specs.Answers.{read_outcome}
use Rattle.layout_reading.specs.Reading.{read_layout}
use Rattle.number_bytes.specs.Held.{read_form, read_scaled}
use Rattle.place_table.specs.Tables.{layout_of, Failed}
use Rattle.program_meaning.specs.Answer.{Gives, and_then}
use Rattle.program_meaning.specs.Arithmetic as meant
use Rattle.program_meaning.specs.Storage.{Storage}
use Rattle.storage_places.specs.declared.fault.RunFault.{RunFault}
use Rattle.storage_places.specs.Held.{held}
use Rattle.storage_places.specs.Meets.{MayMeet}
use Rattle.tree_reading.specs.Reading.{read_expr, read_place}
use Rattle.storage_sums.proofs.FailLaws.{fails_first, fails_then, gives_then, meets_by, err_carried}
use Rattle.storage_sums.proofs.computing.divided.Goals as goal

pub returns-in_err-dividend-clause-err : goal.returns-in_err-dividend-clause-err
returns-in_err-dividend-clause-err c =
    let e : RunFault = c.in_err-dividend.field-0.0 in
    let store : Storage = held c.args.storage.now in
    let form = read_form c.args.how.form in
    let x = read_expr c.args.dividend.now in
    let y = read_expr c.args.divisor.now in
    err_carried (Failed (layout_of c.args.places.now)
    (λ l. and_then {B = meant.Outcome} (meant.receiver_form l store (read_place c.args.rest.now)) (λ rest_form. meant.division_outcome l store c.args.how.rounded form rest_form c.args.how.phrase x y)))
    c.from_residual-in_err-dividend.result e c.from_residual-in_err-dividend.ensures.1
    (λ program.
    let l = read_layout program (layout_of c.args.places.now) in
    let fails : MayMeet (meant.value l store x) e =
    subst (λ (places : Layout). MayMeet (meant.value (read_layout program places) store x) e) c.in_ok-rest_form.ensures.grown.layout (c.in_err-dividend.ensures.err program) in
    fails_then _ _ (read_form c.in_ok-rest_form.rest_form) e (c.in_ok-rest_form.ensures.form store program) (fails_first _ _ e fails))

pub returns-in_err-divisor-clause-err : goal.returns-in_err-divisor-clause-err
returns-in_err-divisor-clause-err c =
    let e : RunFault = c.in_err-divisor.field-0.0 in
    let store : Storage = held c.args.storage.now in
    let form = read_form c.args.how.form in
    let x = read_expr c.args.dividend.now in
    let y = read_expr c.args.divisor.now in
    let a : meant.Scaled = read_scaled c.in_ok-dividend.dividend in
    err_carried (Failed (layout_of c.args.places.now)
    (λ l. and_then {B = meant.Outcome} (meant.receiver_form l store (read_place c.args.rest.now)) (λ rest_form. meant.division_outcome l store c.args.how.rounded form rest_form c.args.how.phrase x y)))
    c.from_residual-in_err-divisor.result e c.from_residual-in_err-divisor.ensures.1
    (λ program.
    let l = read_layout program (layout_of c.args.places.now) in
    let gives : meant.value l store x ≡ Gives a =
    subst (λ (places : Layout). meant.value (read_layout program places) store x ≡ Gives a) c.in_ok-rest_form.ensures.grown.layout (c.in_ok-dividend.ensures.ok program) in
    let fails : MayMeet (meant.value l store y) e =
    subst (λ (places : Layout). MayMeet (meant.value (read_layout program places) store y) e) (c.in_ok-dividend.ensures.grown.layout ∙ c.in_ok-rest_form.ensures.grown.layout) (c.in_err-divisor.ensures.err program) in
    fails_then _ _ (read_form c.in_ok-rest_form.rest_form) e (c.in_ok-rest_form.ensures.form store program) (fails_then _ _ a e gives (fails_first _ _ e fails)))

pub returns-in_err-outcome-clause-err : goal.returns-in_err-outcome-clause-err
returns-in_err-outcome-clause-err c =
    let e : RunFault = c.in_err-outcome.field-0.0 in
    let store : Storage = held c.args.storage.now in
    let form = read_form c.args.how.form in
    let x = read_expr c.args.dividend.now in
    let y = read_expr c.args.divisor.now in
    let a : meant.Scaled = read_scaled c.in_ok-dividend.dividend in
    let b : meant.Scaled = read_scaled c.in_ok-divisor.divisor in
    err_carried (Failed (layout_of c.args.places.now)
    (λ l. and_then {B = meant.Outcome} (meant.receiver_form l store (read_place c.args.rest.now)) (λ rest_form. meant.division_outcome l store c.args.how.rounded form rest_form c.args.how.phrase x y)))
    c.from_residual-in_err-outcome.result e c.from_residual-in_err-outcome.ensures.1
    (λ program.
    let l = read_layout program (layout_of c.args.places.now) in
    let gives_a : meant.value l store x ≡ Gives a =
    subst (λ (places : Layout). meant.value (read_layout program places) store x ≡ Gives a) c.in_ok-rest_form.ensures.grown.layout (c.in_ok-dividend.ensures.ok program) in
    let gives_b : meant.value l store y ≡ Gives b =
    subst (λ (places : Layout). meant.value (read_layout program places) store y ≡ Gives b) (c.in_ok-dividend.ensures.grown.layout ∙ c.in_ok-rest_form.ensures.grown.layout) (c.in_ok-divisor.ensures.ok program) in
    fails_then _ _ (read_form c.in_ok-rest_form.rest_form) e (c.in_ok-rest_form.ensures.form store program)
    (fails_then _ _ a e gives_a (fails_then _ _ b e gives_b (meets_by _ _ e (c.division_outcome.ensures l store) c.in_err-outcome.ensures.err))))

pub returns-clause-ok : goal.returns-clause-ok
returns-clause-ok c = λ program.
    let store : Storage = held c.args.storage.now in
    let x = read_expr c.args.dividend.now in
    let y = read_expr c.args.divisor.now in
    let a : meant.Scaled = read_scaled c.in_ok-dividend.dividend in
    let b : meant.Scaled = read_scaled c.in_ok-divisor.divisor in
    let o : meant.Outcome = read_outcome c.in_ok-outcome.outcome in
    let l = read_layout program (layout_of c.args.places.now) in
    let gives_a : meant.value l store x ≡ Gives a =
    subst (λ (places : Layout). meant.value (read_layout program places) store x ≡ Gives a) c.in_ok-rest_form.ensures.grown.layout (c.in_ok-dividend.ensures.ok program) in
    let gives_b : meant.value l store y ≡ Gives b =
    subst (λ (places : Layout). meant.value (read_layout program places) store y ≡ Gives b) (c.in_ok-dividend.ensures.grown.layout ∙ c.in_ok-rest_form.ensures.grown.layout) (c.in_ok-divisor.ensures.ok program) in
    gives_then _ _ (read_form c.in_ok-rest_form.rest_form) o (c.in_ok-rest_form.ensures.form store program)
    (gives_then _ _ a o gives_a (gives_then _ _ b o gives_b (sym (c.division_outcome.ensures l store) ∙ c.in_ok-outcome.ensures.ok)))
