use Rattle.std.proofs.Common.{◌≡◌, ℕ, arith}
use Rattle.std.proofs.lemmas.List.{get_or_default}
use Rattle.std.proofs.lemmas.List.Elements.{Contains-get_or}
use Rattle.window_modes.specs.declared.index.YearByte.{YearByte}
use Rattle.window_modes.proofs.Joined.{over-more, over-all}
use Rattle.window_modes.proofs.links.join_bytes.Goals as goal

abbrev IsJoined : ℕ → YearByte → ℕ → ℕ → Type 0
IsJoined year b i j = (i ≡ year) × (j ≡ b.year)

pub join_years-requires-clause-second : goal.join_years-requires-clause-second
join_years-requires-clause-second c =
    omega (arith, c.loop-i.invariant.long, c.requires.those _ (Contains-get_or c.args.found.now c.loop-i.i (record { place = record { area = record { 0 = 0 }; offset = 0 }; year = 0 }) (omega arith)))

pub loop-i-preserved : goal.loop-i-preserved
loop-i-preserved c =
    over-more (IsJoined c.args.year) c.args.found.now _ _ _ c.loop-i.i _ (omega arith) (get_or_default c.args.found.now c.loop-i.i _ _ (omega arith)) c.loop-i.invariant c.join_years.ensures

pub returns : goal.returns
returns c = over-all (IsJoined c.args.year) c.args.found.now _ _ c.loop-i.i (omega arith) c.loop-i.invariant
