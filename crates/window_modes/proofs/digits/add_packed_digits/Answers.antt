use Rattle.window_modes.specs.Work.{IsPackedDigit}
use Rattle.window_modes.proofs.Found.{none_added}
use Rattle.window_modes.proofs.digits.add_packed_digits.Goals as goal

pub returns-in-None : goal.returns-in-None
returns-in-None c = none_added (IsPackedDigit c.args.years.now c.args.span c.args.count c.args.byte) _ (λ d h. c.in-None.ensures.none h.1.0 h.1.1)
