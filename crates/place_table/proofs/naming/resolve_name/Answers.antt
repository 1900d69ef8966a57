use Rattle.std.proofs.Common.{sym, subst, Option}
use Rattle.std.specs.Prelude.{IfSome}
use Rattle.storage_places.specs.declared.access.Access.{Access}
use Rattle.storage_places.specs.declared.access.NamedAccess.{NamedAccess}
use Rattle.storage_places.specs.Means.{NamesFor}
use Rattle.place_table.specs.Known.{IsName}
use Rattle.place_table.proofs.KnownLaws.{name-known}
use Rattle.place_table.proofs.naming.resolve_name.Goals as goal

pub returns-in-Some-clause-meant : goal.returns-in-Some-clause-meant
returns-in-Some-clause-meant c =
    let means : NamesFor c.args.layout.now c.args.place.now c.in-Some.named =
    subst (λ (o : Option NamedAccess). IfSome o (NamesFor c.args.layout.now c.args.place.now)) c.in-Some.is c.in_ok-named.ensures.means in
    subst (λ (a : Access). IsName c.args.layout.now c.args.place.now c.in-Some.named.name a) (sym c.into_access.ensures)
    (name-known c.args.layout.now c.args.place.now c.in-Some.named means)
