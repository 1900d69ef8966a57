use Rattle.std.proofs.Common.{◌≡◌, drop}
use Rattle.operand_uses.specs.Places as spec
use Rattle.operand_uses.proofs.place.wrong_subs.Given as goal

abbrev pub invariant-loop-sub : goal.invariant-loop-sub
invariant-loop-sub l = spec.wrong_subs l.layout l.wrong (drop l.sub-index l.subs) ≡ spec.wrong_subs l.layout l.fn.own l.subs
