use Rattle.std.proofs.Common.{arith, ℕ, Contains, below_more}
use Rattle.year_pairs.specs.Years.{byte_of}
use Rattle.year_pairs.proofs.Rows.{not_whole}
use Rattle.year_pairs.proofs.years.is_whole.Goals as goal

pub returns-then-not-bears : goal.returns-then-not-bears
returns-then-not-bears c =
    not_whole c.args.labelling.now c.args.year c.loop-index.index c.bears.result c.bears.ensures c.if-not-bears.true (omega arith)

pub loop-index-preserved : goal.loop-index-preserved
loop-index-preserved c =
    below_more (λ (k : ℕ). Contains c.args.labelling.now (byte_of c.args.year k)) _ c.loop-index.invariant (c.bears.ensures.0 c.if-not-bears.false)
