use Rattle.window_modes.specs.Work.{IsPairDigit}
use Rattle.window_modes.proofs.Found.{none_added}
use Rattle.window_modes.proofs.digits.add_pair_digit.Goals as goal

pub returns-in-None : goal.returns-in-None
returns-in-None c = none_added (IsPairDigit c.args.years.now c.args.span c.args.powers.now c.args.byte) _ (λ d h. c.in-None.ensures.none d.power h.1)
