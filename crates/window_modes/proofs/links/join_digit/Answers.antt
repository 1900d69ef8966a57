use Rattle.std.proofs.Common.{◌≡◌, ℕ, arith}
use Rattle.std.proofs.lemmas.List.{get_or_default}
use Rattle.std.proofs.lemmas.List.Elements.{Contains-get_or}
use Rattle.window_modes.specs.declared.digits.YearDigit.{YearDigit}
use Rattle.window_modes.proofs.Joined.{over-more, over-all}
use Rattle.window_modes.proofs.links.join_digit.Goals as goal

abbrev IsJoined : YearDigit → YearDigit → ℕ → ℕ → Type 0
IsJoined d e i j = (d.power ≡ e.power) × (i ≡ d.year) × (j ≡ e.year)

pub join_two-requires-clause-first : goal.join_two-requires-clause-first
join_two-requires-clause-first c = omega (arith, c.loop-i.invariant.long, c.requires.this)

pub join_two-requires-clause-second : goal.join_two-requires-clause-second
join_two-requires-clause-second c =
    omega (arith, c.loop-i.invariant.long, c.requires.those _ (Contains-get_or c.args.those.now c.loop-i.i (record { power = 0; year = 0 }) (omega arith)))

pub loop-i-preserved : goal.loop-i-preserved
loop-i-preserved c =
    over-more (IsJoined c.args.digit) c.args.those.now _ _ _ c.loop-i.i _ (omega arith) (get_or_default c.args.those.now c.loop-i.i _ _ (omega arith)) c.loop-i.invariant c.join_two.ensures

pub returns : goal.returns
returns c = over-all (IsJoined c.args.digit) c.args.those.now _ _ c.loop-i.i (omega arith) c.loop-i.invariant
