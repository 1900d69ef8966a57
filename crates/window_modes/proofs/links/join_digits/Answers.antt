use Rattle.std.proofs.Common.{◌≡◌, ℕ, arith, Contains, List}
use Rattle.std.proofs.lemmas.List.{get_or_default}
use Rattle.std.proofs.lemmas.List.Elements.{Contains-get_or}
use Rattle.window_modes.specs.declared.digits.YearDigit.{YearDigit}
use Rattle.window_modes.proofs.Joined.{over-more, over-all}
use Rattle.window_modes.proofs.links.join_digits.Goals as goal

abbrev IsJoined : List YearDigit → YearDigit → ℕ → ℕ → Type 0
IsJoined those d i j = (e : YearDigit) × Contains those e × ((d.power ≡ e.power) × (i ≡ d.year) × (j ≡ e.year))

pub join_digit-requires-clause-this : goal.join_digit-requires-clause-this
join_digit-requires-clause-this c =
    omega (arith, c.loop-i.invariant.long, c.requires.these _ (Contains-get_or c.args.these.now c.loop-i.i (record { power = 0; year = 0 }) (omega arith)))

pub join_digit-requires-clause-those : goal.join_digit-requires-clause-those
join_digit-requires-clause-those c = λ d at. omega (arith, c.loop-i.invariant.long, c.requires.those d at)

pub loop-i-preserved : goal.loop-i-preserved
loop-i-preserved c =
    over-more (IsJoined c.args.those.now) c.args.these.now _ _ _ c.loop-i.i _ (omega arith) (get_or_default c.args.these.now c.loop-i.i _ _ (omega arith)) c.loop-i.invariant c.join_digit.ensures

pub returns : goal.returns
returns c = over-all (IsJoined c.args.those.now) c.args.these.now _ _ c.loop-i.i (omega arith) c.loop-i.invariant
