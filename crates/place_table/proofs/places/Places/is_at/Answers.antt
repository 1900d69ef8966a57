use Rattle.std.proofs.Common.{◌≡◌, sym, ap, ◌∙◌, Option, Some, Bor}
use Rattle.std.specs.Option.{option_map}
use Rattle.place_table.specs.declared.known.Known.{Known}
use Rattle.place_table.specs.Tables.{known_at}
use Rattle.place_table.proofs.KnownLaws.{found}
use Rattle.place_table.proofs.places.Places.is_at.Goals as goal

pub returns-in-Some : goal.returns-in-Some
returns-in-Some c = λ same.
    let here : known_at c.args.self.now c.args.number ≡ Some c.in-Some.known.now =
    sym c.known_at.ensures ∙ ap (λ (o : Option (Bor Known)). option_map (λ (b : Bor Known). b.now) o) c.in-Some.is in
    found c.args.self.now c.args.place.now c.args.number c.in-Some.known.now c.args.self.now.meant here (c.same_place.ensures.same same)
