use Rattle.portfolio_gen.proofs.Records.{next_is_drawn, next_record}
use Rattle.portfolio_gen.proofs.employees.records.Goals as goal

pub loop-i-preserved : goal.loop-i-preserved
loop-i-preserved c =
    let next = next_is_drawn c.args.count c.loop-i.i _ _ c.loop-i.invariant.drawn c.next_drawn-drawn.ensures.value in
    record {
      whole = next_record c.args.count c.loop-i.i _ _ _ c.loop-i-test.true c.loop-i.invariant.whole next c.in_ok-add_employee.ensures;
      drawn = next;
      below = c.next_drawn-drawn.ensures.below;
    }
