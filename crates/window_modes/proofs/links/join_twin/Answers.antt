use Rattle.std.proofs.Common.{◌≡◌, arith, refl, Contains, subst, List}
use Rattle.window_modes.specs.declared.index.YearByte.{YearByte}
use Rattle.window_modes.specs.Work.{Joins}
use Rattle.window_modes.proofs.Found.{twin, no_twin, numbered}
use Rattle.window_modes.proofs.links.join_twin.Goals as goal

pub join_bytes-requires-clause-those : goal.join_bytes-requires-clause-those
join_bytes-requires-clause-those c = λ b at.
    let there : Contains c.in_ok-found-in-Some.found.items b = subst (λ (xs : List YearByte). Contains xs b) c.deref.ensures.value at in
    omega (arith, c.requires.long, numbered c.args.years.now c.args.bytes.now.keys c.requires.indexed b ((c.in_ok-found-in-Some.ensures b).0 there).0)

pub returns-in_ok-found-in-Some : goal.returns-in_ok-found-in-Some
returns-in_ok-found-in-Some c =
    twin c.args.bytes.now.keys c.in_ok-found-in-Some.found.items c.args.a c.args.b _ c.args.byte c.in-Some.index c.args.sets.now c.join_bytes.new.sets refl c.in-Some.ensures.found.0 c.in-Some.ensures.found.1 c.in_ok-found-in-Some.ensures
    (subst (λ (xs : List YearByte). Joins (λ i j. (b : YearByte) × Contains xs b × ((i ≡ c.args.byte.year) × (j ≡ b.year))) c.args.sets.now c.join_bytes.new.sets) c.deref.ensures.value c.join_bytes.ensures)

pub returns-in-None : goal.returns-in-None
returns-in-None c = no_twin c.args.bytes.now.keys c.args.a c.args.b c.args.byte c.args.sets.now c.in-None.ensures.none
