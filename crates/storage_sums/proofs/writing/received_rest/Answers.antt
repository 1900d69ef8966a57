use Rattle.std.specs.Int.{w128}
use Rattle.std.proofs.Common.{ℤ, Option, Some, sym, subst}
use Rattle.std.proofs.lemmas.Int.{to_z-of_z}
use Rattle.cobol_syntax.specs.declared.place.Place.{Place}
use Rattle.place_table.specs.Tables.{layout_of, Failed}
use Rattle.program_meaning.specs.Arithmetic as meant
use Rattle.program_meaning.specs.Storage.{Storage}
use Rattle.storage_places.specs.declared.fault.RunFault.{RunFault}
use Rattle.storage_places.specs.Held.{held}
use Rattle.tree_reading.specs.Reading.{place_if}
use Rattle.storage_sums.proofs.FailLaws.{err_carried}
use Rattle.storage_sums.proofs.writing.received_rest.Goals as goal

pub returns-in_err-stored-in-Some-clause-err : goal.returns-in_err-stored-in-Some-clause-err
returns-in_err-stored-in-Some-clause-err c =
    let e : RunFault = c.in_err-stored-in-Some.field-0.0 in
    let fails : Option Place → ℤ → RunFault → Type 0 = λ rest n e. (s : Storage) → Failed (layout_of c.args.places.now) (λ l. meant.written_rest l (held c.args.storage.now) (place_if rest) n s) e in
    err_carried (fails c.args.rest.now c.args.number) c.from_residual.result e c.from_residual.ensures.1
    (subst (λ (rest : Option Place). fails rest c.args.number e) (sym c.in-Some.is)
    (subst (λ (n : ℤ). fails (Some c.in-Some.place) n e) (to_z-of_z w128 c.args.number c.ranges.number) c.in_err-stored-in-Some.ensures.err))
