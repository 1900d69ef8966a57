use Rattle.std.proofs.Common.{◌≡◌, ◌∙◌, Bool, subst}
use Rattle.data_layout.specs.declared.item.Layout.{Layout}
use Rattle.exact_arithmetic.specs.Answers.{read_outcome}
use Rattle.layout_reading.specs.Reading.{read_layout}
use Rattle.number_bytes.specs.Held.{read_form}
use Rattle.place_table.specs.Tables.{layout_of, Failed}
use Rattle.program_meaning.specs.Answer.{Answer, Gives}
use Rattle.program_meaning.specs.Arithmetic as meant
use Rattle.program_meaning.specs.Layout as layouts
use Rattle.program_meaning.specs.Storage.{Storage}
use Rattle.storage_places.specs.declared.fault.RunFault.{RunFault}
use Rattle.storage_places.specs.Held.{held}
use Rattle.storage_places.specs.Meets.{MayMeet}
use Rattle.tree_reading.specs.Reading.{read_expr, read_place, place_if}
use Rattle.storage_sums.proofs.FailLaws.{fails_first, fails_then, gives_then, err_carried}
use Rattle.storage_sums.proofs.computing.compute.Goals as goal

pub returns-in_err-outcome-clause-err : goal.returns-in_err-outcome-clause-err
returns-in_err-outcome-clause-err c =
    let e : RunFault = c.in_err-outcome.field-0.0 in
    let store : Storage = held c.args.storage.now in
    let x = read_expr c.args.expr.now in
    let rest = place_if c.args.rest.now in
    let form = read_form c.in_ok-form.form in
    let outcome : layouts.Layout → Answer meant.Outcome = λ l. meant.by_phrase l store c.args.phrase (meant.computed l store c.args.rounded form c.args.phrase x rest) in
    err_carried (Failed (layout_of c.args.places.now) (λ l. meant.compute l store (read_place c.args.to.now) c.args.rounded x rest c.args.phrase)) c.from_residual-in_err-outcome.result e c.from_residual-in_err-outcome.ensures.1
    (λ program.
    let l = read_layout program (layout_of c.args.places.now) in
    let fails : MayMeet (outcome l) e =
    subst (λ (places : Layout). MayMeet (outcome (read_layout program places)) e) c.in_ok-form.ensures.grown.layout (c.in_err-outcome.ensures.err program) in
    fails_then _ _ form e (c.in_ok-form.ensures.form store program) (fails_first (outcome l) _ e fails))

pub returns-in_err-is_error-clause-err : goal.returns-in_err-is_error-clause-err
returns-in_err-is_error-clause-err c =
    let e : RunFault = c.in_err-is_error.field-0.0 in
    let store : Storage = held c.args.storage.now in
    let to = read_place c.args.to.now in
    let x = read_expr c.args.expr.now in
    let rest = place_if c.args.rest.now in
    let form = read_form c.in_ok-form.form in
    let o : meant.Outcome = read_outcome c.in_ok-outcome.outcome in
    let outcome : layouts.Layout → Answer meant.Outcome = λ l. meant.by_phrase l store c.args.phrase (meant.computed l store c.args.rounded form c.args.phrase x rest) in
    err_carried (Failed (layout_of c.args.places.now) (λ l. meant.compute l store to c.args.rounded x rest c.args.phrase)) c.from_residual-in_err-is_error.result e c.from_residual-in_err-is_error.ensures.1
    (λ program.
    let l = read_layout program (layout_of c.args.places.now) in
    let gives : outcome l ≡ Gives o =
    subst (λ (places : Layout). outcome (read_layout program places) ≡ Gives o) c.in_ok-form.ensures.grown.layout (c.in_ok-outcome.ensures.ok program) in
    let fails : MayMeet (meant.written l store c.args.phrase to rest o) e =
    subst (λ (places : Layout). MayMeet (meant.written (read_layout program places) store c.args.phrase to rest o) e) (c.in_ok-outcome.ensures.grown.layout ∙ c.in_ok-form.ensures.grown.layout) (c.in_err-is_error.ensures.err program) in
    fails_then _ _ form e (c.in_ok-form.ensures.form store program) (fails_then (outcome l) _ o e gives fails))

pub returns-clause-ok : goal.returns-clause-ok
returns-clause-ok c = λ program.
    let store : Storage = held c.args.storage.now in
    let to = read_place c.args.to.now in
    let x = read_expr c.args.expr.now in
    let rest = place_if c.args.rest.now in
    let form = read_form c.in_ok-form.form in
    let o : meant.Outcome = read_outcome c.in_ok-outcome.outcome in
    let outcome : layouts.Layout → Answer meant.Outcome = λ l. meant.by_phrase l store c.args.phrase (meant.computed l store c.args.rounded form c.args.phrase x rest) in
    let done : Bool × Storage = (c.in_ok-is_error.is_error, held c.write.new.storage) in
    let l = read_layout program (layout_of c.args.places.now) in
    let gives : outcome l ≡ Gives o =
    subst (λ (places : Layout). outcome (read_layout program places) ≡ Gives o) c.in_ok-form.ensures.grown.layout (c.in_ok-outcome.ensures.ok program) in
    let written : meant.written l store c.args.phrase to rest o ≡ Gives done =
    subst (λ (places : Layout). meant.written (read_layout program places) store c.args.phrase to rest o ≡ Gives done) (c.in_ok-outcome.ensures.grown.layout ∙ c.in_ok-form.ensures.grown.layout) (c.in_ok-is_error.ensures.ok program) in
    gives_then _ _ form done (c.in_ok-form.ensures.form store program) (gives_then (outcome l) _ o done gives written)
