use Rattle.std.proofs.Common.{◌≡◌, drop, None}
use Rattle.program_uses.specs.Simple as spec
use Rattle.program_uses.proofs.simple.show_fault.Given as goal

abbrev pub invariant-loop-operand : goal.invariant-loop-operand
invariant-loop-operand l =
    spec.show_fault l.layout l.owner l.fault (drop l.operand-index l.operands) ≡ spec.show_fault l.layout l.owner None l.operands
