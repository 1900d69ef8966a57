use Rattle.std.proofs.Common.{sym, ap, ◌∙◌}
use Rattle.byte_lists.specs.Part.{with_part}
use Rattle.file_convert.proofs.PackedLemmas.{grow_digits, grow_other}
use Rattle.file_convert.proofs.pair.write_pair.Goals as goal

pub returns-then-holds_two_digits : goal.returns-then-holds_two_digits
returns-then-holds_two_digits c = c.copy_at.ensures ∙ ap (with_part c.args.into.now c.args.at) (sym (grow_digits c.args.bytes.now c.requires.long (sym c.holds_two_digits.ensures ∙ c.if-holds_two_digits.true)))

pub returns-else-holds_two_digits : goal.returns-else-holds_two_digits
returns-else-holds_two_digits c = c.copy_at-else-holds_two_digits.ensures ∙ ap (with_part c.args.into.now c.args.at) (sym (grow_other c.args.bytes.now c.requires.long (sym c.holds_two_digits.ensures ∙ c.if-holds_two_digits.false)))
