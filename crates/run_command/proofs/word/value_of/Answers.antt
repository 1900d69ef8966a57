use Rattle.std.proofs.Common.{rules, ◌<◌, arith}
use Rattle.decimal_bytes.proofs.PositionalLemmas.{fits-more}
use Rattle.run_command.proofs.word.value_of.Goals as goal

pub overflow_mul-value : goal.overflow_mul-value
overflow_mul-value c =
    let more = fits-more c.loop-rest.done c.loop-rest.value 0 (omega (arith, c.loop-rest.invariant.1, c.requires, c.in-len1-up.len_at_least)) c.loop-rest.invariant.2 (omega arith) in
    omega (arith, more.1)

pub overflow_add-value : goal.overflow_add-value
overflow_add-value c =
    let digit : c.from.result < 10 = search rules in
    let more = fits-more c.loop-rest.done c.loop-rest.value c.from.result (omega (arith, c.loop-rest.invariant.1, c.requires, c.in-len1-up.len_at_least)) c.loop-rest.invariant.2 digit in
    omega (arith, more.1)
