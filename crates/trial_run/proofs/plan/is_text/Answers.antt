use Rattle.std.proofs.Common.{ℕ, List, slice_index_or, subst, arith, Fits, w8}
use Rattle.layout_reading.specs.Names.{unnamed}
use Rattle.trial_run.proofs.plan.is_text.Goals as goal

pub returns : goal.returns
returns c = λ same.
    let byte : Fits w8 (slice_index_or unnamed 0 0) = subst (λ (bs : List ℕ). Fits w8 (slice_index_or bs 0 0)) same (c.type_inv.name 0) in
    absurd (omega (arith, byte))
