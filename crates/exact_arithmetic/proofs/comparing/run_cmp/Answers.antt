use Rattle.std.proofs.Common.{sym, ◌∙◌}
use Rattle.exact_arithmetic.proofs.TextLaws.{run_cmp-apart, run_cmp-same}
use Rattle.exact_arithmetic.proofs.comparing.run_cmp.Goals as goal

pub returns-then-next-byte : goal.returns-then-next-byte
returns-then-next-byte c =
    c.cmp.ensures ∙ sym (run_cmp-apart c.args.right.now c.args.byte c.loop-next.next-index c.loop-next-test.true c.if-next-byte.true) ∙ c.loop-next.invariant

pub loop-next-preserved : goal.loop-next-preserved
loop-next-preserved c =
    sym (run_cmp-same c.args.right.now c.args.byte c.loop-next.next-index c.loop-next-test.true c.if-next-byte.false) ∙ c.loop-next.invariant
