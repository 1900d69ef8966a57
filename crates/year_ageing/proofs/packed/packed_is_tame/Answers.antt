use Rattle.std.proofs.Common.{◌≡◌, ◌+◌, ◌*◌, drop, sym, ap, ◌∙◌, arith}
use Rattle.byte_lists.specs.HalfBytes.{halves}
use Rattle.year_image.specs.Packing.{year_at}
use Rattle.year_image.specs.Image.{above, two_digit_value}
use Rattle.file_convert.proofs.PackedLemmas.{packed_is_tame_other, packed_is_tame_yes, packed_is_tame_below, packed_value}
use Rattle.year_ageing.proofs.packed.packed_is_tame.Goals as goal

pub returns-then-not-holds_packed : goal.returns-then-not-holds_packed
returns-then-not-holds_packed c = c.is_one_byte.ensures ∙ sym (packed_is_tame_other c.args.digits c.args.unit c.args.pivot c.args.bytes.now (sym c.holds_packed.ensures ∙ c.if-not-holds_packed.true))

pub returns-then-is_above : goal.returns-then-is_above
returns-then-is_above c =
    let bs = c.args.bytes.now in
    let at = year_at c.args.digits c.args.unit in
    let value : c.half_at-tens.result * 10 + c.half_at-units.result ≡ two_digit_value 0 (drop at (halves bs)) = omega (arith, packed_value at (halves bs), c.half_at-tens.ensures.half, c.half_at-units.ensures.half) in
    sym (packed_is_tame_yes c.args.digits c.args.unit c.args.pivot bs (sym c.holds_packed.ensures ∙ c.if-not-holds_packed.false) (ap (above c.args.pivot) (sym value) ∙ sym c.is_above.ensures ∙ c.if-is_above.true))

pub returns : goal.returns
returns c =
    let bs = c.args.bytes.now in
    let at = year_at c.args.digits c.args.unit in
    let value : c.half_at-tens.result * 10 + c.half_at-units.result ≡ two_digit_value 0 (drop at (halves bs)) = omega (arith, packed_value at (halves bs), c.half_at-tens.ensures.half, c.half_at-units.ensures.half) in
    c.is_one_byte-2.ensures ∙ sym (packed_is_tame_below c.args.digits c.args.unit c.args.pivot bs (ap (above c.args.pivot) (sym value) ∙ sym c.is_above.ensures ∙ c.if-is_above.false))
