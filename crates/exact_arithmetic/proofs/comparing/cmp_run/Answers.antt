use Rattle.std.proofs.Common.{sym, ◌∙◌}
use Rattle.exact_arithmetic.proofs.TextLaws.{cmp_run-apart, cmp_run-same}
use Rattle.exact_arithmetic.proofs.comparing.cmp_run.Goals as goal

pub returns-then-next-byte : goal.returns-then-next-byte
returns-then-next-byte c =
    c.cmp.ensures ∙ sym (cmp_run-apart c.args.left.now c.args.byte c.loop-next.next-index c.loop-next-test.true c.if-next-byte.true) ∙ c.loop-next.invariant

pub loop-next-preserved : goal.loop-next-preserved
loop-next-preserved c =
    sym (cmp_run-same c.args.left.now c.args.byte c.loop-next.next-index c.loop-next-test.true c.if-next-byte.false) ∙ c.loop-next.invariant
