-- Records of bytes: more of them, those in front of more bytes, and the next one.
use Rattle.std.proofs.Common.{◌≡◌, ℕ, zero, suc, ◌+◌, ◌-◌, ◌*◌, ◌/◌, ◌%◌, ◌<◌, ◌≤◌, List, [], ◌∷◌, ◌++◌, length, take, drop, refl, sym, ap, ◌∙◌, arith, length-append, length-drop, add-one, take-add}
use Rattle.std.specs.List.{concat}
use Rattle.std.proofs.lemmas.List.{drop-drop, take-append-le, drop-append-le, take_all}
use Rattle.std.proofs.lemmas.Nat.{div-add-mod'}
use Rattle.std.proofs.Math.Nat.{add-div_left, add-div_right, div-eq_of_lt, add-mod_right}
use Rattle.std.proofs.Math.Seq.{drop-append_seam}
use Rattle.byte_lists.specs.Part.{part}
use Rattle.byte_lists.specs.Records.{records, records_of}

-- the first records and those after them
pub records-append : (size count more : ℕ) (bs : List ℕ) → records size (count + more) bs ≡ records size count bs ++ records size more (drop (count * size) bs)
records-append size zero more bs =
    let e : 0 + more ≡ more = omega arith in
    let f : 0 * size ≡ 0 = omega arith in
    ap (λ n. records size n bs) e ∙ sym (ap (λ n. records size more (drop n bs)) f)
records-append size (suc count) more bs =
    let e : suc count + more ≡ suc (count + more) = omega arith in
    let g : size + count * size ≡ suc count * size = omega arith in
    ap (λ n. records size n bs) e
    ∙ ap (λ (l : List (List ℕ)). take size bs ∷ l) (records-append size count more (drop size bs))
    ∙ ap (λ (l : List ℕ). take size bs ∷ (records size count (drop size bs) ++ records size more l)) (drop-drop (count * size) size bs ∙ ap (λ n. drop n bs) g)

-- one record more
pub records-more : (size count : ℕ) (bs : List ℕ) → records size (count + 1) bs ≡ records size count bs ++ part bs (count * size) size ∷ []
records-more size count bs = records-append size count 1 bs

-- the first records don't see what follows them
pub records-front : (size count : ℕ) (xs ys : List ℕ) → count * size ≤ length xs → records size count (xs ++ ys) ≡ records size count xs
records-front size zero xs ys h = refl
records-front size (suc count) xs ys h =
    let e : suc count * size ≡ size + count * size = omega arith in
    let first : size ≤ length xs = omega (arith, h, e) in
    let later : count * size ≤ length (drop size xs) = omega (arith, h, e, length-drop size xs) in
    ap (λ (l : List ℕ). l ∷ records size count (drop size (xs ++ ys))) (take-append-le size xs ys first)
    ∙ ap (λ (l : List ℕ). take size xs ∷ records size count l) (drop-append-le size xs ys first)
    ∙ ap (λ (l : List (List ℕ)). take size xs ∷ l) (records-front size count (drop size xs) ys later)

-- where a whole record is left, it is the first, and the others are behind it
pub records_of-next : (n : ℕ) (bs : List ℕ) → 0 < n → n ≤ length bs → records_of n bs ≡ take n bs ∷ records_of n (drop n bs)
records_of-next n bs pos h =
    let left : length (drop n bs) ≡ length bs - n = length-drop n bs in
    let whole : n + (length bs - n) ≡ length bs = omega (arith, h) in
    let count : length bs / n ≡ suc ((length bs - n) / n) = sym (ap (λ k. k / n) whole) ∙ add-div_left (length bs - n) pos ∙ add-one ((length bs - n) / n) in
    ap (λ k. records n k bs) count ∙ sym (ap (λ k. take n bs ∷ records n (k / n) (drop n bs)) left)

-- where none is left there are no more
pub records_of-end : (n : ℕ) (bs : List ℕ) → length bs < n → records_of n bs ≡ []
records_of-end n bs h = ap (λ k. records n k bs) (div-eq_of_lt h)

-- a record behind whole records
pub records_of-push : (n : ℕ) (bs r : List ℕ) → 0 < n → length bs % n ≡ 0 → length r ≡ n → records_of n (bs ++ r) ≡ records_of n bs ++ r ∷ []
records_of-push n bs r pos whole e =
    let count = length bs / n in
    let exact : count * n ≡ length bs = omega (arith, div-add-mod' (length bs) n, whole) in
    let longer : length (bs ++ r) ≡ length bs + n = omega (arith, length-append bs r, e) in
    let more : length (bs ++ r) / n ≡ count + 1 = ap (λ k. k / n) longer ∙ add-div_right (length bs) pos in
    let last : part (bs ++ r) (count * n) n ≡ r =
    ap (λ k. take n (drop k (bs ++ r))) exact ∙ ap (take n) (drop-append_seam bs r) ∙ take_all n r (omega (arith, e)) in
    ap (λ k. records n k (bs ++ r)) more
    ∙ records-more n count (bs ++ r)
    ∙ ap (λ (l : List (List ℕ)). l ++ part (bs ++ r) (count * n) n ∷ []) (records-front n count bs r (omega (arith, exact)))
    ∙ ap (λ (l : List ℕ). records n count bs ++ l ∷ []) last

pub whole-push : (n : ℕ) (bs r : List ℕ) → length bs % n ≡ 0 → length r ≡ n → length (bs ++ r) % n ≡ 0
whole-push n bs r whole e =
    let longer : length (bs ++ r) ≡ length bs + n = omega (arith, length-append bs r, e) in
    ap (λ k. k % n) longer ∙ add-mod_right (length bs) n ∙ whole

-- records one after the other are the bytes
pub concat-records : (size count : ℕ) (bs : List ℕ) → count * size ≤ length bs → concat (records size count bs) ≡ take (count * size) bs
concat-records size zero bs h = let e : 0 * size ≡ 0 = omega arith in sym (ap (λ k. take k bs) e)
concat-records size (suc count) bs h =
    let e : suc count * size ≡ size + count * size = omega arith in
    ap (λ (l : List ℕ). take size bs ++ l) (concat-records size count (drop size bs) (omega (arith, h, e, length-drop size bs)))
    ∙ sym (take-add size (count * size) bs)
    ∙ sym (ap (λ k. take k bs) e)

pub concat-records_of : (n : ℕ) (bs : List ℕ) → length bs % n ≡ 0 → concat (records_of n bs) ≡ bs
concat-records_of n bs whole =
    let exact : length bs / n * n ≡ length bs = omega (arith, div-add-mod' (length bs) n, whole) in
    concat-records n (length bs / n) bs (omega (arith, exact)) ∙ take_all (length bs / n * n) bs (omega (arith, exact))
