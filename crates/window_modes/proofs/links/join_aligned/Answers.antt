use Rattle.std.proofs.Common.{◌≡◌, ℕ, arith, Contains, subst, List}
use Rattle.window_modes.specs.declared.digits.YearDigit.{YearDigit}
use Rattle.window_modes.specs.Work.{Joins}
use Rattle.window_modes.proofs.Found.{aligned, digit_numbered}
use Rattle.window_modes.proofs.links.join_aligned.Goals as goal

pub join_digits-requires-clause-these : goal.join_digits-requires-clause-these
join_digits-requires-clause-these c = λ d at.
    let there : Contains c.in_ok-these.these.items d = subst (λ (xs : List YearDigit). Contains xs d) c.deref.ensures.value at in
    omega (arith, c.requires.long, digit_numbered c.args.years.now c.args.a.now c.in_ok-these.these.items c.in_ok-these.ensures d there)

pub join_digits-requires-clause-those : goal.join_digits-requires-clause-those
join_digits-requires-clause-those c = λ d at.
    let there : Contains c.in_ok-those.those.items d = subst (λ (xs : List YearDigit). Contains xs d) c.deref-2.ensures.value at in
    omega (arith, c.requires.long, digit_numbered c.args.years.now c.args.b.now c.in_ok-those.those.items c.in_ok-those.ensures d there)

abbrev IsJoined : List YearDigit → List YearDigit → ℕ → ℕ → Type 0
IsJoined these those i j = (d : YearDigit) × Contains these d × ((e : YearDigit) × Contains those e × ((d.power ≡ e.power) × (i ≡ d.year) × (j ≡ e.year)))

pub returns : goal.returns
returns c =
    aligned c.args.years.now c.args.a.now c.args.b.now c.in_ok-these.these.items c.in_ok-those.those.items c.args.sets.now c.join_digits.new.sets c.in_ok-these.ensures c.in_ok-those.ensures
    (subst (λ (xs : List YearDigit). Joins (IsJoined xs c.in_ok-those.those.items) c.args.sets.now c.join_digits.new.sets) c.deref.ensures.value
    (subst (λ (xs : List YearDigit). Joins (IsJoined c.deref.result.now xs) c.args.sets.now c.join_digits.new.sets) c.deref-2.ensures.value c.join_digits.ensures))
