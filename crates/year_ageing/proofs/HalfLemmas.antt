-- Half-bytes that are set or taken out.
use Rattle.std.proofs.Common.{◌≡◌, ℕ, zero, suc, ◌+◌, ◌-◌, ◌*◌, ◌/◌, ◌%◌, ◌<◌, ◌≤◌, List, [], ◌∷◌, ◌++◌, length, take, drop, refl, sym, ap, ◌∙◌, arith}
use Rattle.std.specs.Prelude.{slice_index}
use Rattle.std.proofs.lemmas.Nat.{div-mul-add, mod-mul-add}
use Rattle.byte_lists.specs.HalfBytes.{halves, joined}
use Rattle.byte_lists.specs.Part.{with_part}
use Rattle.year_image.proofs.PackedImages.{joined-halves}
use Rattle.year_ageing.specs.Years.{without_century}

with_part-more : (x : ℕ) (xs : List ℕ) (i v : ℕ) → with_part (x ∷ xs) (suc i) (v ∷ []) ≡ x ∷ with_part xs i (v ∷ [])
with_part-more x xs i v = let e : suc i + length (v ∷ []) ≡ suc (i + length (v ∷ [])) = omega arith in ap (λ n. x ∷ (take i xs ++ (v ∷ drop n (x ∷ xs)))) e

without-more : (x y : ℕ) (hs : List ℕ) (n : ℕ) → without_century (suc (suc n)) (x ∷ y ∷ hs) ≡ x ∷ y ∷ without_century n hs
without-more x y hs n = let e : suc (suc n) + 2 ≡ suc (suc (n + 2)) = omega arith in ap (λ k. x ∷ y ∷ (take n hs ++ drop k (x ∷ y ∷ hs))) e

halves-more : (b : ℕ) (bs : List ℕ) (n m v : ℕ) → m ≡ suc (suc n) → with_part (halves (b ∷ bs)) m (v ∷ []) ≡ b / 16 ∷ b % 16 ∷ with_part (halves bs) n (v ∷ [])
halves-more b bs n m v e =
    ap (λ k. with_part (halves (b ∷ bs)) k (v ∷ [])) e ∙ with_part-more (b / 16) (b % 16 ∷ halves bs) (suc n) v ∙ ap (λ (l : List ℕ). b / 16 ∷ l) (with_part-more (b % 16) (halves bs) n v)

-- the first half-byte of a byte
pub set_even : (i : ℕ) (bs : List ℕ) (v : ℕ) → i < length bs → v < 16 → halves (with_part bs i ((v * 16 + slice_index bs i % 16) ∷ [])) ≡ with_part (halves bs) (2 * i) (v ∷ [])
set_even i [] v h l = absurd (omega arith)
set_even zero (b ∷ bs) v h l = let small : b % 16 < 16 = omega arith in rw (div-mul-add v 16 (b % 16) small, mod-mul-add v 16 (b % 16) small) refl
set_even (suc i) (b ∷ bs) v h l =
    let two : 2 * suc i ≡ suc (suc (2 * i)) = omega arith in
    ap halves (with_part-more b bs i (v * 16 + slice_index bs i % 16)) ∙ ap (λ (l : List ℕ). b / 16 ∷ b % 16 ∷ l) (set_even i bs v (omega arith) l) ∙ sym (halves-more b bs (2 * i) (2 * suc i) v two)

-- the second one
pub set_odd : (i : ℕ) (bs : List ℕ) (v : ℕ) → i < length bs → v < 16 → halves (with_part bs i ((slice_index bs i / 16 * 16 + v) ∷ [])) ≡ with_part (halves bs) (2 * i + 1) (v ∷ [])
set_odd i [] v h l = absurd (omega arith)
set_odd zero (b ∷ bs) v h l = rw (div-mul-add (b / 16) 16 v l, mod-mul-add (b / 16) 16 v l) refl
set_odd (suc i) (b ∷ bs) v h l =
    let two : 2 * suc i + 1 ≡ suc (suc (2 * i + 1)) = omega arith in
    ap halves (with_part-more b bs i (slice_index bs i / 16 * 16 + v)) ∙ ap (λ (l : List ℕ). b / 16 ∷ b % 16 ∷ l) (set_odd i bs v (omega arith) l) ∙ sym (halves-more b bs (2 * i + 1) (2 * suc i + 1) v two)

-- a century that is a byte
pub without-even : (m at : ℕ) (bs : List ℕ) → at ≡ 2 * m → m < length bs → joined (without_century at (halves bs)) ≡ take m bs ++ drop (m + 1) bs
without-even m at [] e h = absurd (omega arith)
without-even zero at (b ∷ bs) e h = ap (λ n. joined (without_century n (halves (b ∷ bs)))) e ∙ joined-halves bs
without-even (suc m) at (b ∷ bs) e h =
    let two : at ≡ suc (suc (2 * m)) = omega arith in
    let one : suc m + 1 ≡ suc (m + 1) = omega arith in
    let whole : b / 16 * 16 + b % 16 ≡ b = omega arith in
    ap (λ n. joined (without_century n (halves (b ∷ bs)))) two ∙ ap joined (without-more (b / 16) (b % 16) (halves bs) (2 * m))
    ∙ ap (λ x. x ∷ joined (without_century (2 * m) (halves bs))) whole ∙ ap (λ (l : List ℕ). b ∷ l) (without-even m (2 * m) bs refl (omega arith))
    ∙ sym (ap (λ n. b ∷ (take m bs ++ drop n (b ∷ bs))) one)

-- a century that begins in the middle of a byte
pub without-odd : (m at : ℕ) (bs : List ℕ) → at ≡ 2 * m + 1 → m + 1 < length bs → joined (without_century at (halves bs)) ≡ take m bs ++ (slice_index bs m / 16 * 16 + slice_index bs (m + 1) % 16) ∷ drop (m + 2) bs
without-odd m at [] e h = absurd (omega arith)
without-odd zero at (b ∷ []) e h = absurd (omega arith)
without-odd zero at (b ∷ c ∷ bs) e h = ap (λ n. joined (without_century n (halves (b ∷ c ∷ bs)))) e ∙ ap (λ (l : List ℕ). (b / 16 * 16 + c % 16) ∷ l) (joined-halves bs)
without-odd (suc m) at (b ∷ bs) e h =
    let two : at ≡ suc (suc (2 * m + 1)) = omega arith in
    let one : suc m + 1 ≡ suc (m + 1) = omega arith in
    let three : suc m + 2 ≡ suc (m + 2) = omega arith in
    let whole : b / 16 * 16 + b % 16 ≡ b = omega arith in
    ap (λ n. joined (without_century n (halves (b ∷ bs)))) two ∙ ap joined (without-more (b / 16) (b % 16) (halves bs) (2 * m + 1))
    ∙ ap (λ x. x ∷ joined (without_century (2 * m + 1) (halves bs))) whole ∙ ap (λ (l : List ℕ). b ∷ l) (without-odd m (2 * m + 1) bs refl (omega arith))
    ∙ sym (ap (λ n. b ∷ (take m bs ++ (slice_index bs m / 16 * 16 + slice_index (b ∷ bs) n % 16) ∷ drop (suc m + 2) (b ∷ bs))) one ∙ ap (λ n. b ∷ (take m bs ++ (slice_index bs m / 16 * 16 + slice_index bs (m + 1) % 16) ∷ drop n (b ∷ bs))) three)
