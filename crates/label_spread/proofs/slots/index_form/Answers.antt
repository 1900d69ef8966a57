use Rattle.label_spread.specs.Steps.{IsInView}
use Rattle.label_spread.proofs.Blocks.{Indexes-three}
use Rattle.label_spread.proofs.slots.index_form.Goals as goal

pub returns-in_ok-index_view-in-Sum-3 : goal.returns-in_ok-index_view-in-Sum-3
returns-in_ok-index_view-in-Sum-3 c =
    rw c.in-Sum.is
    (Indexes-three (IsInView c.in-Sum.a) (IsInView c.in-Sum.b) (IsInView c.in-Sum.c) c.args.rule _ _ _ _ c.in_ok-index_view-in-Sum.ensures c.in_ok-index_view-in-Sum-2.ensures c.in_ok-index_view-in-Sum-3.ensures)

pub returns-in_ok-index_view-in-Difference-3 : goal.returns-in_ok-index_view-in-Difference-3
returns-in_ok-index_view-in-Difference-3 c =
    rw c.in-Difference.is
    (Indexes-three (IsInView c.in-Difference.a) (IsInView c.in-Difference.b) (IsInView c.in-Difference.c) c.args.rule _ _ _ _ c.in_ok-index_view-in-Difference.ensures c.in_ok-index_view-in-Difference-2.ensures c.in_ok-index_view-in-Difference-3.ensures)
