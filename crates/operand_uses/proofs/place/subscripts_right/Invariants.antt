use Rattle.std.proofs.Common.{◌≡◌, drop}
use Rattle.operand_uses.specs.Places as spec
use Rattle.operand_uses.proofs.place.subscripts_right.Given as goal

abbrev pub invariant-loop-sub : goal.invariant-loop-sub
invariant-loop-sub l = spec.subscripts_right l.layout l.tables (drop l.sub-index l.subs) ≡ spec.subscripts_right l.layout l.fn.steps l.subs
