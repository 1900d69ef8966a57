use Rattle.std.proofs.Common.{sym, ◌∙◌}
use Rattle.fixed_format.proofs.LineLaws.{push_line}
use Rattle.fixed_format.proofs.lines.lines_of.Goals as goal

pub loop-rest-preserved : goal.loop-rest-preserved
loop-rest-preserved c =
    push_line c.loop-rest.found c.push.new.self c.loop-rest.rest.now c.after-rest.result.now c.in_ok-copy_of.field-0 c.line_length-length.result
    (sym c.is_empty.ensures ∙ c.loop-rest-test.true) c.line_length-length.ensures.value (c.in_ok-copy_of.ensures ∙ c.front.ensures) c.after-rest.ensures.value c.in_ok-push.ensures.ok
    ∙ c.loop-rest.invariant
