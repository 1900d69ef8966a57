use Rattle.std.proofs.Common.{Result, sym, subst}
use Rattle.exact_arithmetic.specs.declared.outcome.Outcome.{Outcome}
use Rattle.layout_reading.specs.Reading.{read_layout}
use Rattle.number_bytes.specs.Held.{read_form}
use Rattle.place_table.specs.Tables.{layout_of}
use Rattle.program_meaning.specs.Answer.{Answer}
use Rattle.program_meaning.specs.Arithmetic as meant
use Rattle.program_meaning.specs.Layout.{Layout}
use Rattle.program_meaning.specs.Storage.{Storage}
use Rattle.storage_places.specs.declared.fault.RunFault.{RunFault}
use Rattle.storage_places.specs.Held.{held}
use Rattle.tree_reading.specs.Reading.{read_expr, place_if}
use Rattle.storage_sums.proofs.DivisionLaws.{AreOutcome, phrased_outcome, outcome_by, outcome_gave, outcome_failed}
use Rattle.storage_sums.proofs.computing.outcome.Goals as goal

pub returns-clause-ok : goal.returns-clause-ok
returns-clause-ok c =
    let places = layout_of c.args.places.now in
    let store : Storage = held c.args.storage.now in
    let before : Layout → Answer meant.Outcome = λ l. meant.computed l store c.args.how.rounded (read_form c.args.how.form) c.args.how.phrase (read_expr c.args.expr.now) (place_if c.args.rest.now) in
    let after : Layout → Answer meant.Outcome = λ l. meant.by_phrase l store c.args.how.phrase (before l) in
    outcome_gave places after c.by_phrase.result
    (subst (λ (r : Result Outcome RunFault). AreOutcome places after r) (sym c.by_phrase.ensures)
    (λ program. phrased_outcome (read_layout program places) store c.args.how.phrase _ c.computed.result (outcome_by places before c.computed.result c.computed.ensures.ok c.computed.ensures.err program)))

pub returns-clause-err : goal.returns-clause-err
returns-clause-err c =
    let places = layout_of c.args.places.now in
    let store : Storage = held c.args.storage.now in
    let before : Layout → Answer meant.Outcome = λ l. meant.computed l store c.args.how.rounded (read_form c.args.how.form) c.args.how.phrase (read_expr c.args.expr.now) (place_if c.args.rest.now) in
    let after : Layout → Answer meant.Outcome = λ l. meant.by_phrase l store c.args.how.phrase (before l) in
    outcome_failed places after c.by_phrase.result
    (subst (λ (r : Result Outcome RunFault). AreOutcome places after r) (sym c.by_phrase.ensures)
    (λ program. phrased_outcome (read_layout program places) store c.args.how.phrase _ c.computed.result (outcome_by places before c.computed.result c.computed.ensures.ok c.computed.ensures.err program)))
