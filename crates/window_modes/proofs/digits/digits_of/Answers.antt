use Rattle.std.proofs.Common.{sym, subst}
use Rattle.year_labels.specs.declared.rule.View.{View}
use Rattle.window_modes.specs.Work.{AreDigitsOf}
use Rattle.window_modes.proofs.digits.digits_of.Goals as goal

pub returns-in_ok-digits-in-Bytes : goal.returns-in_ok-digits-in-Bytes
returns-in_ok-digits-in-Bytes c =
    subst (λ (v : View). AreDigitsOf c.args.years.now v c.in_ok-digits-in-Bytes.digits.items) (sym c.in-Bytes.is) c.in_ok-digits-in-Bytes.ensures

pub returns-in_ok-digits-in-Packed : goal.returns-in_ok-digits-in-Packed
returns-in_ok-digits-in-Packed c =
    subst (λ (v : View). AreDigitsOf c.args.years.now v c.in_ok-digits-in-Packed.digits.items) (sym c.in-Packed.is) c.in_ok-digits-in-Packed.ensures
