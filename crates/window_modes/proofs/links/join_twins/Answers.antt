use Rattle.std.proofs.Common.{arith, Contains, sym, subst}
use Rattle.std.proofs.lemmas.List.Elements.{Contains-get_or}
use Rattle.window_modes.specs.declared.index.YearByte.{YearByte}
use Rattle.window_modes.proofs.Joined.{over-more, over-all}
use Rattle.window_modes.proofs.Found.{IsTwin, twins, numbered}
use Rattle.window_modes.proofs.links.join_twins.Goals as goal

pub join_twin-requires-clause-within : goal.join_twin-requires-clause-within
join_twin-requires-clause-within c =
    let byte : YearByte = c.index-byte.result.now in
    let found = c.in_ok-found.found.items in
    let at : Contains found byte = subst (λ (b : YearByte). Contains found b) (sym c.index-byte.ensures) (Contains-get_or found c.loop-i.i byte (omega arith)) in
    omega (arith, c.loop-i.invariant.long, c.requires.long, numbered c.args.years.now c.args.bytes.now.keys c.requires.indexed byte ((c.in_ok-found.ensures byte).0 at).0)

pub loop-i-preserved : goal.loop-i-preserved
loop-i-preserved c =
    over-more (IsTwin c.args.bytes.now.keys c.args.a c.args.b) c.in_ok-found.found.items _ _ _ c.loop-i.i c.index-byte.result.now (omega arith) c.index-byte.ensures c.loop-i.invariant c.in_ok-join_twin.ensures

pub returns : goal.returns
returns c =
    twins c.args.years.now c.args.bytes.now.keys c.in_ok-found.found.items c.args.a c.args.b _ _ c.requires.indexed c.in_ok-found.ensures
    (over-all (IsTwin c.args.bytes.now.keys c.args.a c.args.b) c.in_ok-found.found.items _ _ c.loop-i.i (omega arith) c.loop-i.invariant)
