use Rattle.std.proofs.Common.{List, arith, refl, sym, subst}
use Rattle.window_modes.specs.declared.digits.YearDigit.{YearDigit}
use Rattle.window_modes.specs.Work.{IsPackedDigit}
use Rattle.window_modes.proofs.Found.{Collected, collected-none, collected-more, collected-all, digits_in_packed}
use Rattle.window_modes.proofs.digits.digits_of_packed.Goals as goal

pub loop-i-init : goal.loop-i-init
loop-i-init c = subst (λ (ds : List YearDigit). Collected (IsPackedDigit c.args.years.now c.args.span c.args.count) c.in_ok-found.found.items 0 ds) (sym c.new-digits.ensures.items)
    (collected-none (IsPackedDigit c.args.years.now c.args.span c.args.count) c.in_ok-found.found.items)

pub loop-i-preserved : goal.loop-i-preserved
loop-i-preserved c =
    collected-more (IsPackedDigit c.args.years.now c.args.span c.args.count) c.in_ok-found.found.items _ _ c.loop-i.i c.index-byte.result.now (omega arith) c.index-byte.ensures c.in_ok-add_packed_digits.ensures c.loop-i.invariant

pub returns : goal.returns
returns c =
    digits_in_packed c.args.years.now c.args.bytes.now.keys c.in_ok-found.found.items c.args.span _ c.args.count _ refl c.requires.indexed c.in_ok-found.ensures
    (collected-all (IsPackedDigit c.args.years.now c.args.span c.args.count) c.in_ok-found.found.items _ c.loop-i.i (omega arith) c.loop-i.invariant)
