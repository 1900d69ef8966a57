use Rattle.std.specs.Int.{w128}
use Rattle.std.proofs.Common.{◌≡◌, ◌&&◌, Bool, ℤ, Some, SFits, cond, to_z, of_z, rules, refl, ap, sym, ◌∙◌, subst}
use Rattle.std.proofs.lemmas.Int.{to_z-of_z}
use Rattle.data_layout.specs.declared.item.Layout.{Layout}
use Rattle.exact_arithmetic.specs.Answers.{read_outcome}
use Rattle.layout_reading.specs.Reading.{read_layout}
use Rattle.place_table.specs.Tables.{layout_of, Failed}
use Rattle.program_meaning.specs.Answer.{Answer, Gives}
use Rattle.program_meaning.specs.Arithmetic as meant
use Rattle.program_meaning.specs.Storage.{Storage}
use Rattle.storage_places.specs.declared.fault.RunFault.{RunFault}
use Rattle.storage_places.specs.Held.{held, first}
use Rattle.storage_places.specs.Meets.{MayMeet}
use Rattle.tree_reading.specs.Reading.{read_place, place_if}
use Rattle.storage_sums.specs.Stores.{stored_in, stored_if}
use Rattle.storage_sums.proofs.FailLaws.{fails_first, fails_then, gives_then, err_carried}
use Rattle.storage_sums.proofs.WriteLaws.{written_as}
use Rattle.storage_sums.proofs.writing.write.Goals as goal

pub returns-in_err-receiver-clause-err : goal.returns-in_err-receiver-clause-err
returns-in_err-receiver-clause-err c =
    let e : RunFault = c.in_err-receiver.field-0.0 in
    let store : Storage = held c.args.storage.now in
    let to = read_place c.args.to.now in
    let n : ℤ = c.args.outcome.result in
    let fits : SFits w128 n = search rules in
    err_carried (Failed (layout_of c.args.places.now) (λ l. meant.written l store c.args.phrase to (place_if c.args.rest.now) (read_outcome c.args.outcome))) c.from_residual.result e c.from_residual.ensures.1
    (λ program.
    let l = read_layout program (layout_of c.args.places.now) in
    let fails : MayMeet (meant.written_rest l store (Some to) n store) e =
    subst (λ (z : ℤ). MayMeet (meant.written_rest l store (Some to) z store) e) (to_z-of_z w128 n fits) (c.in_err-receiver.ensures.err store program) in
    subst (λ (a : Answer (Bool × Storage)). MayMeet a e) (sym (written_as l store c.args.phrase to (place_if c.args.rest.now) (read_outcome c.args.outcome))) (fails_first _ _ e fails))

pub returns-in_err-rest-clause-err : goal.returns-in_err-rest-clause-err
returns-in_err-rest-clause-err c =
    let e : RunFault = c.in_err-rest.field-0.0 in
    let store : Storage = held c.args.storage.now in
    let to = read_place c.args.to.now in
    let rest = place_if c.args.rest.now in
    let n : ℤ = c.args.outcome.result in
    let m : ℤ = c.args.outcome.rest in
    let n_fits : SFits w128 n = search rules in
    let m_fits : SFits w128 m = search rules in
    let after : Storage = stored_in (first c.args.storage.now) store c.in_ok-receiver.receiver in
    err_carried (Failed (layout_of c.args.places.now) (λ l. meant.written l store c.args.phrase to rest (read_outcome c.args.outcome))) c.from_residual-in_err-rest.result e c.from_residual-in_err-rest.ensures.1
    (λ program.
    let l = read_layout program (layout_of c.args.places.now) in
    let gives : meant.written_rest l store (Some to) n store ≡ Gives after =
    subst (λ (z : ℤ). meant.written_rest l store (Some to) z store ≡ Gives after) (to_z-of_z w128 n n_fits) (c.in_ok-receiver.ensures.ok store program) in
    let fails : MayMeet (meant.written_rest l store rest m after) e =
    subst (λ (z : ℤ). MayMeet (meant.written_rest l store rest z after) e) (to_z-of_z w128 m m_fits)
    (subst (λ (places : Layout). MayMeet (meant.written_rest (read_layout program places) store rest (to_z w128 (of_z w128 m)) after) e) c.in_ok-receiver.ensures.grown.layout (c.in_err-rest.ensures.err after program)) in
    subst (λ (a : Answer (Bool × Storage)). MayMeet a e) (sym (written_as l store c.args.phrase to rest (read_outcome c.args.outcome))) (fails_then _ _ after e gives (fails_first _ _ e fails)))

pub returns-clause-ok : goal.returns-clause-ok
returns-clause-ok c = λ program.
    let store : Storage = held c.args.storage.now in
    let to = read_place c.args.to.now in
    let rest = place_if c.args.rest.now in
    let n : ℤ = c.args.outcome.result in
    let m : ℤ = c.args.outcome.rest in
    let n_fits : SFits w128 n = search rules in
    let m_fits : SFits w128 m = search rules in
    let error : Bool = c.args.outcome.is_error in
    let after : Storage = stored_in (first c.args.storage.now) store c.in_ok-receiver.receiver in
    let both : Storage = stored_if (first c.args.storage.now) c.in_ok-rest.rest after in
    let l = read_layout program (layout_of c.args.places.now) in
    let gives : meant.written_rest l store (Some to) n store ≡ Gives after =
    subst (λ (z : ℤ). meant.written_rest l store (Some to) z store ≡ Gives after) (to_z-of_z w128 n n_fits) (c.in_ok-receiver.ensures.ok store program) in
    let then : meant.written_rest l store rest m after ≡ Gives both =
    subst (λ (z : ℤ). meant.written_rest l store rest z after ≡ Gives both) (to_z-of_z w128 m m_fits)
    (subst (λ (places : Layout). meant.written_rest (read_layout program places) store rest (to_z w128 (of_z w128 m)) after ≡ Gives both) c.in_ok-receiver.ensures.grown.layout (c.in_ok-rest.ensures.ok after program)) in
    let held_now : held c.put_unless.new.storage ≡ cond (error && c.args.phrase) store both =
    c.put_unless.ensures.held ∙ ap (λ (b : Bool). cond b store both) c.both.ensures in
    written_as l store c.args.phrase to rest (read_outcome c.args.outcome)
    ∙ gives_then _ _ after (error, cond (error && c.args.phrase) store both) gives (gives_then _ _ both (error, cond (error && c.args.phrase) store both) then refl)
    ∙ ap (λ (s : Storage). Gives (error, s)) (sym held_now)
