use Rattle.std.proofs.Common.{arith}
use Rattle.std.proofs.lemmas.Bool.{false≢true}
use Rattle.conflict_chain.proofs.Steps.{bare}
use Rattle.conflict_chain.proofs.chain.stands_before.Goals as goal

pub returns : goal.returns
returns c = (λ e. absurd (false≢true e), λ h. absurd (c.loop-k.invariant h.0 bare (omega (arith, h.1)) (h.2 bare)))
