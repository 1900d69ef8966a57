use Rattle.std.proofs.Common.{sym, ◌∙◌}
use Rattle.file_convert.proofs.PackedLemmas.{tame_digits, tame_other}
use Rattle.year_ageing.proofs.pair.pair_is_tame.Goals as goal

pub returns-then-holds_two_digits : goal.returns-then-holds_two_digits
returns-then-holds_two_digits c = c.is_above.ensures ∙ sym (tame_digits c.args.pivot c.args.bytes.now (sym c.holds_two_digits.ensures ∙ c.if-holds_two_digits.true))

pub returns-else-holds_two_digits : goal.returns-else-holds_two_digits
returns-else-holds_two_digits c = c.is_doubled.ensures ∙ sym (tame_other c.args.pivot c.args.bytes.now (sym c.holds_two_digits.ensures ∙ c.if-holds_two_digits.false))
