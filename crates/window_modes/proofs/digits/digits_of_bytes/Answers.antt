use Rattle.std.proofs.Common.{ℕ, Option, List, arith, sym, subst}
use Rattle.window_modes.specs.declared.index.YearByte.{YearByte}
use Rattle.window_modes.specs.declared.digits.YearDigit.{YearDigit}
use Rattle.window_modes.specs.Work.{IsPairDigit, AddsDigits}
use Rattle.window_modes.proofs.Found.{Collected, collected-none, collected-more, collected-all, digits_in_bytes}
use Rattle.window_modes.proofs.digits.digits_of_bytes.Goals as goal

pub loop-i-init : goal.loop-i-init
loop-i-init c = subst (λ (ds : List YearDigit). Collected (IsPairDigit c.args.years.now c.args.span c.args.powers.now) c.in_ok-found.found.items 0 ds) (sym c.new-digits.ensures.items)
    (collected-none (IsPairDigit c.args.years.now c.args.span c.args.powers.now) c.in_ok-found.found.items)

pub loop-i-preserved : goal.loop-i-preserved
loop-i-preserved c =
    let byte : YearByte = c.index-byte.result.now in
    collected-more (IsPairDigit c.args.years.now c.args.span c.args.powers.now) c.in_ok-found.found.items _ _ c.loop-i.i byte (omega arith) c.index-byte.ensures
    (subst (λ (ps : List (Option ℕ)). AddsDigits (IsPairDigit c.args.years.now c.args.span ps byte) c.loop-i.digits.items c.add_pair_digit.new.digits.items) c.items.ensures c.in_ok-add_pair_digit.ensures) c.loop-i.invariant

pub returns : goal.returns
returns c =
    digits_in_bytes c.args.years.now c.args.bytes.now.keys c.in_ok-found.found.items c.args.span c.args.powers.now _ c.requires.equal c.requires.indexed c.in_ok-found.ensures
    (collected-all (IsPairDigit c.args.years.now c.args.span c.args.powers.now) c.in_ok-found.found.items _ c.loop-i.i (omega arith) c.loop-i.invariant)
