use Rattle.std.proofs.Common.{◌∙◌, ap, arith, length}
use Rattle.data_layout.specs.Index as spec
use Rattle.data_layout.proofs.InIndex.{conds-more}
use Rattle.data_layout.proofs.index.Index.add_conds.Goals as goal

pub loop-cond-preserved : goal.loop-cond-preserved
loop-cond-preserved c =
    let splits = c.in-Some.ensures.some in (
      conds-more (spec.held c.loop-cond.self) (spec.held c.add.new.self) c.loop-cond.number c.loop-cond.rest.now c.in-Some.more.now c.in-Some.cond.now splits c.in_ok-add.ensures ∙ c.loop-cond.invariant.0,
      omega (arith, ap length splits, c.loop-cond.invariant.1),
    )
