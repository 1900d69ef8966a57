use Rattle.std.proofs.Common.{ap, sym, ◌∙◌, subst}
use Rattle.program_meaning.specs.Kind as kind
use Rattle.program_meaning.specs.Number.{at_point}
use Rattle.storage_places.specs.Held.{held, first}
use Rattle.value_moves.specs.Given.{IsSent}
use Rattle.value_moves.specs.declared.sent.Sent.{Sent}
use Rattle.storage_moves.specs.Stored.{view_at, stored}
use Rattle.storage_moves.proofs.StoredLaws.{write-digits-none}
use Rattle.storage_moves.proofs.storing.store_other.Goals as goal

pub returns-in-Amount-clause-text : goal.returns-in-Amount-clause-text
returns-in-Amount-clause-text c = λ m given.
    let h = subst (λ (s : Sent). IsSent s m) c.in-Amount.is given in
    let store = held c.args.storage.now in
    write-digits-none store (first c.args.storage.now) c.args.span (at_point 0 h.decimal)
    ∙ ap (stored store (view_at (first c.args.storage.now) kind.Text c.args.span)) (sym h.is)

pub returns-in-Amount-clause-group : goal.returns-in-Amount-clause-group
returns-in-Amount-clause-group c = λ m given.
    let h = subst (λ (s : Sent). IsSent s m) c.in-Amount.is given in
    let store = held c.args.storage.now in
    write-digits-none store (first c.args.storage.now) c.args.span (at_point 0 h.decimal)
    ∙ ap (stored store (view_at (first c.args.storage.now) kind.Group c.args.span)) (sym h.is)
