use Rattle.std.proofs.Common.{ℕ, ◌≡◌, ◌+◌, ◌-◌, ◌*◌, ◌/◌, ◌%◌, ◌^◌, ◌<◌, ◌∷◌, length, drop, set, ap, sym, ◌∙◌, arith, add-one}
use Rattle.std.proofs.Math.Nat.{pow-suc, div-div-eq-div-mul}
use Rattle.std.proofs.lemmas.List.{drop-set}
use Rattle.byte_lists.specs.Digit.{decimal, codes}
use Rattle.literal_images.proofs.numbers.put_magnitude.Goals as goal

pub loop-place-preserved : goal.loop-place-preserved
loop-place-preserved c =
    let loop = c.loop-place in
    let n = length c.args.into.now in
    let place = loop.place in
    let m = c.args.magnitude in
    let at : n - (place + 1) ≡ n - 1 - place = omega arith in
    let next : n - 1 - place + 1 ≡ n - place = omega arith in
    let within : n - 1 - place < length loop.into = omega arith in
    let digit : 48 + loop.rest % 10 ≡ m / 10 ^ place % 10 + 48 = ap (λ (r : ℕ). 48 + r % 10) loop.invariant.0 ∙ (omega arith) in
    let power : 10 ^ (place + 1) ≡ 10 ^ place * 10 = ap (λ e. 10 ^ e) (add-one place) ∙ pow-suc 10 place in (
      ap (λ (r : ℕ). r / 10) loop.invariant.0 ∙ div-div-eq-div-mul m (10 ^ place) 10 ∙ ap (λ p. m / p) (sym power),
      ap (λ i. drop i (set loop.into (n - 1 - place) (48 + loop.rest % 10))) at
          ∙ drop-set loop.into (n - 1 - place) (48 + loop.rest % 10) within
          ∙ ap (λ i. (48 + loop.rest % 10) ∷ drop i loop.into) next
          ∙ ap (λ d. d ∷ drop (n - place) loop.into) digit
          ∙ ap (λ r. (m / 10 ^ place % 10 + 48) ∷ r) loop.invariant.1
          ∙ ap (λ k. codes (decimal k m)) (sym (add-one place)),
    )
