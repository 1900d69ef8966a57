-- Files of one record more.
use Rattle.std.proofs.Common.{◌≡◌, ℕ, zero, suc, ◌+◌, ◌*◌, ◌≤◌, List, [], ◌∷◌, ◌++◌, length, take, drop, map, refl, sym, ap, ◌∙◌, arith, append_assoc, length-append, length-drop}
use Rattle.std.proofs.lemmas.List.{drop-drop, length-take-le, take-append-drop, take_at, drop_at}
use Rattle.year_image.specs.Piece.{Piece, size, grown_size}
use Rattle.year_image.specs.Image.{image}
use Rattle.byte_lists.specs.Part.{part}
use Rattle.year_image.specs.Text.{YearsFit}
use Rattle.year_image.proofs.Lengths.{length-image}
use Rattle.year_image.proofs.Injective.{image-injective}
use Rattle.byte_lists.specs.Records.{records}
use Rattle.year_image.specs.Files.{images, AreTame}

pub images-append : (ps : List Piece) (rs ss : List (List ℕ)) → images ps (rs ++ ss) ≡ images ps rs ++ images ps ss
images-append ps [] ss = refl
images-append ps (r ∷ rs) ss = ap (λ (l : List ℕ). image 48 ps r ++ l) (images-append ps rs ss) ∙ sym (append_assoc (image 48 ps r) (images ps rs) (images ps ss))

pub tame-both : (ps : List Piece) (rs ss : List (List ℕ)) → AreTame ps rs → AreTame ps ss → AreTame ps (rs ++ ss)
tame-both ps [] ss h k = k
tame-both ps (r ∷ rs) ss h k = (h.0, tame-both ps rs ss h.1 k)

-- the records of the image of a file are the images of its records
pub records-images : (ps : List Piece) (count : ℕ) (bs : List ℕ) → count * size ps ≤ length bs → records (grown_size ps) count (images ps (records (size ps) count bs)) ≡ map (image 48 ps) (records (size ps) count bs)
records-images ps zero bs h = refl
records-images ps (suc count) bs h =
    let first = image 48 ps (take (size ps) bs) in
    let rest = images ps (records (size ps) count (drop (size ps) bs)) in
    let e : suc count * size ps ≡ size ps + count * size ps = omega arith in
    let long : length first ≡ grown_size ps = length-image 48 ps (take (size ps) bs) (length-take-le (size ps) bs (omega (arith, h, e))) in
    ap (λ (l : List ℕ). l ∷ records (grown_size ps) count (drop (grown_size ps) (first ++ rest))) (take_at first rest (grown_size ps) long)
    ∙ ap (λ (l : List ℕ). first ∷ records (grown_size ps) count l) (drop_at first rest (grown_size ps) long)
    ∙ ap (λ (l : List (List ℕ)). first ∷ l) (records-images ps count (drop (size ps) bs) (omega (arith, h, e, length-drop (size ps) bs)))

-- and it has as many bytes as they have together
pub length-images : (ps : List Piece) (count : ℕ) (bs : List ℕ) → count * size ps ≤ length bs → length (images ps (records (size ps) count bs)) ≡ count * grown_size ps
length-images ps zero bs h = let e : 0 ≡ 0 * grown_size ps = omega arith in e
length-images ps (suc count) bs h =
    let first = image 48 ps (take (size ps) bs) in
    let rest = images ps (records (size ps) count (drop (size ps) bs)) in
    let e : suc count * size ps ≡ size ps + count * size ps = omega arith in
    let f : suc count * grown_size ps ≡ grown_size ps + count * grown_size ps = omega arith in
    let long : length first ≡ grown_size ps = length-image 48 ps (take (size ps) bs) (length-take-le (size ps) bs (omega (arith, h, e))) in
    let later : length rest ≡ count * grown_size ps = length-images ps count (drop (size ps) bs) (omega (arith, h, e, length-drop (size ps) bs)) in
    omega (arith, length-append first rest, long, later, f)

no_bytes : (xs ys : List ℕ) → length xs ≡ 0 → length ys ≡ 0 → xs ≡ ys
no_bytes [] [] e f = refl
no_bytes [] (y ∷ ys) e f = absurd (omega arith)
no_bytes (x ∷ xs) ys e f = absurd (omega arith)

-- tame files that have one image are equal
pub images-injective : (ps : List Piece) (count : ℕ) (xs ys : List ℕ) → YearsFit ps → length xs ≡ count * size ps → length ys ≡ count * size ps → AreTame ps (records (size ps) count xs) → AreTame ps (records (size ps) count ys) → images ps (records (size ps) count xs) ≡ images ps (records (size ps) count ys) → xs ≡ ys
images-injective ps zero xs ys fit lx ly tx ty e = no_bytes xs ys (omega (arith, lx)) (omega (arith, ly))
images-injective ps (suc count) xs ys fit lx ly tx ty e =
    let n = size ps in
    let g = grown_size ps in
    let total : suc count * n ≡ n + count * n = omega arith in
    let lax : length (take n xs) ≡ n = length-take-le n xs (omega (arith, lx, total)) in
    let lay : length (take n ys) ≡ n = length-take-le n ys (omega (arith, ly, total)) in
    let restx = images ps (records n count (drop n xs)) in
    let resty = images ps (records n count (drop n ys)) in
    let gx = length-image 48 ps (take n xs) lax in
    let gy = length-image 48 ps (take n ys) lay in
    let heads : image 48 ps (take n xs) ≡ image 48 ps (take n ys) =
    sym (take_at (image 48 ps (take n xs)) restx g gx) ∙ ap (take g) e ∙ take_at (image 48 ps (take n ys)) resty g gy in
    let tails : restx ≡ resty =
    sym (drop_at (image 48 ps (take n xs)) restx g gx) ∙ ap (drop g) e ∙ drop_at (image 48 ps (take n ys)) resty g gy in
    let first : take n xs ≡ take n ys = image-injective 48 ps (take n xs) (take n ys) fit lax lay tx.0 ty.0 heads in
    let later : drop n xs ≡ drop n ys = images-injective ps count (drop n xs) (drop n ys) fit (omega (arith, length-drop n xs, lx, total)) (omega (arith, length-drop n ys, ly, total)) tx.1 ty.1 tails in
    sym (take-append-drop n xs) ∙ ap (λ (l : List ℕ). l ++ drop n xs) first ∙ ap (λ (l : List ℕ). take n ys ++ l) later ∙ take-append-drop n ys

-- the records behind the first ones are tame where all are
pub tame-back : (ps : List Piece) (rs ss : List (List ℕ)) → AreTame ps (rs ++ ss) → AreTame ps ss
tame-back ps [] ss h = h
tame-back ps (r ∷ rs) ss h = tame-back ps rs ss h.1
