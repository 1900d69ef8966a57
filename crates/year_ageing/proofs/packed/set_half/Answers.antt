use Rattle.std.proofs.Common.{◌≡◌, ◌+◌, ◌*◌, ◌/◌, ◌∷◌, [], ap, ◌∙◌, arith}
use Rattle.byte_lists.specs.HalfBytes.{halves}
use Rattle.byte_lists.specs.Part.{with_part}
use Rattle.year_ageing.proofs.HalfLemmas.{set_even, set_odd}
use Rattle.year_ageing.proofs.packed.set_half.Goals as goal

pub returns-then-at-eq0 : goal.returns-then-at-eq0
returns-then-at-eq0 c =
    let bs = c.args.bytes.now in
    let e : 2 * (c.args.at / 2) ≡ c.args.at = omega (arith, c.if-at-eq0.true) in
    ap halves c.copy_at.ensures ∙ set_even (c.args.at / 2) bs c.args.half (omega (arith, c.requires.place)) c.requires.small ∙ ap (λ n. with_part (halves bs) n (c.args.half ∷ [])) e

pub returns-else-at-eq0 : goal.returns-else-at-eq0
returns-else-at-eq0 c =
    let bs = c.args.bytes.now in
    let e : 2 * (c.args.at / 2) + 1 ≡ c.args.at = omega (arith, c.if-at-eq0.false) in
    ap halves c.copy_at-else-at-eq0.ensures ∙ set_odd (c.args.at / 2) bs c.args.half (omega (arith, c.requires.place)) c.requires.small ∙ ap (λ n. with_part (halves bs) n (c.args.half ∷ [])) e
