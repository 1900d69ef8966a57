use Rattle.std.proofs.Common.{◌≡◌, ℕ, ◌+◌, ◌*◌, ◌/◌, ◌%◌, ◌<◌, ◌&&◌, ◌||◌, slice_index, take, true, sym, ap, ◌∙◌, subst, arith}
use Rattle.std.specs.Prelude.{◌==◌}
use Rattle.byte_lists.specs.Digit.{all_digits}
use Rattle.byte_lists.specs.HalfBytes.{halves}
use Rattle.year_image.proofs.Lengths.{length-halves}
use Rattle.file_convert.proofs.PackedLemmas.{not_packed_at, digits_more, packed_by_ends}
use Rattle.year_ageing.proofs.packed.holds_packed.Goals as goal

pub returns-then-half_at-gt9 : goal.returns-then-half_at-gt9
returns-then-half_at-gt9 c =
    let h : 9 < slice_index (halves c.args.bytes.now) c.loop-at.at = omega (arith, c.half_at.ensures.half) in
    sym (not_packed_at c.args.digits c.args.bytes.now c.loop-at.at c.loop-at-test.true h)

pub loop-at-preserved : goal.loop-at-preserved
loop-at-preserved c =
    digits_more (halves c.args.bytes.now) c.loop-at.at (omega (arith, length-halves c.args.bytes.now)) c.loop-at.invariant (omega (arith, c.half_at.ensures.half))

pub returns : goal.returns
returns c =
    let bs = c.args.bytes.now in
    let digits = c.args.digits in
    let e : c.loop-at.at ≡ digits / 2 * 2 + 1 = omega arith in
    let P : ℕ → Type 0 = λ n. all_digits 0 (take n (halves bs)) ≡ true in
    c.has_packed_ends.ensures
    ∙ ap (λ f. (digits % 2 == 1 || f == 0) && (c.half_at-sign.result == 12 || c.half_at-sign.result == 15)) c.half_at-first.ensures.half
    ∙ ap (λ s. (digits % 2 == 1 || slice_index (halves bs) 0 == 0) && (s == 12 || s == 15)) c.half_at-sign.ensures.half
    ∙ sym (packed_by_ends digits bs (subst P e c.loop-at.invariant))
