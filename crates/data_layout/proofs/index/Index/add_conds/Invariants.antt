use Rattle.std.proofs.Common.{◌≡◌, ◌+◌, length}
use Rattle.data_layout.specs.Index as spec
use Rattle.data_layout.proofs.index.Index.add_conds.Given as goal

abbrev pub invariant-loop-cond : goal.invariant-loop-cond
invariant-loop-cond l =
    (spec.with_conds (spec.held l.self) l.number l.rest ≡ spec.with_conds (spec.held l.initial.self) 0 l.conds)
    × (l.number + length l.rest ≡ length l.conds)

abbrev pub decreases-loop-cond : goal.decreases-loop-cond
decreases-loop-cond l = length l.rest
