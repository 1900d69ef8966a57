-- Offsets after the conversion.
use Rattle.std.proofs.Common.{◌≡◌, ℕ, zero, suc, ◌+◌, ◌-◌, ◌<◌, ◌≤◌, cond, List, [], ◌∷◌, ◌++◌, refl, ap, ◌∙◌, arith}
use Rattle.std.proofs.lemmas.Bool.{le-leb, lt-leb}
use Rattle.year_image.specs.Piece.{Piece, Keep, Pair, Packed, width, grown_width, size, grown_size}
use Rattle.year_image.specs.Offset.{new_offset, image_offset}

pub width_positive : (p : Piece) → 1 ≤ width p
width_positive Keep = omega arith
width_positive (Pair pivot) = omega arith
width_positive (Packed digits unit pivot) = omega arith

new_offset-step : (p : Piece) (ps : List Piece) (o : ℕ) → 1 ≤ o → new_offset (p ∷ ps) o ≡ grown_width p + new_offset ps (o - width p)
new_offset-step p ps zero h = absurd (omega arith)
new_offset-step p ps (suc o) h = refl

new_offset-zero : (ps : List Piece) → new_offset ps 0 ≡ 0
new_offset-zero [] = refl
new_offset-zero (p ∷ ps) = refl

-- between pieces, the new offset is the size of the image of what stands before
pub new_offset-at : (b r : List Piece) → new_offset (b ++ r) (size b) ≡ grown_size b
new_offset-at [] r = new_offset-zero r
new_offset-at (p ∷ b) r =
    let e : width p + size b - width p ≡ size b = omega arith in
    new_offset-step p (b ++ r) (width p + size b) (omega (arith, width_positive p)) ∙ ap (λ n. grown_width p + new_offset (b ++ r) n) e ∙ ap (λ n. grown_width p + n) (new_offset-at b r)

-- inside a piece, it is that size, what the piece gets in front, and the place in the piece
pub image_offset-at : (b : List Piece) (p : Piece) (r : List Piece) (o : ℕ) → o < width p → image_offset (b ++ (p ∷ r)) (size b + o) ≡ grown_size b + (o + (grown_width p - width p))
image_offset-at [] p r o h =
    let e : 0 + o ≡ o = omega arith in
    let f : o + (grown_width p - width p) ≡ 0 + (o + (grown_width p - width p)) = omega arith in
    ap (image_offset (p ∷ r)) e
    ∙ ap (λ b. cond b (o + (grown_width p - width p)) (grown_width p + image_offset r (o - width p))) (le-leb (o + 1) (width p) (omega arith)) ∙ f
image_offset-at (q ∷ b) p r o h =
    let n = width q + size b + o in
    let e : n - width q ≡ size b + o = omega arith in
    let f : grown_width q + (grown_size b + (o + (grown_width p - width p))) ≡ grown_width q + grown_size b + (o + (grown_width p - width p)) = omega arith in
    ap (λ t. cond t (n + (grown_width q - width q)) (grown_width q + image_offset (b ++ (p ∷ r)) (n - width q))) (lt-leb (n + 1) (width q) (omega arith))
    ∙ ap (λ m. grown_width q + image_offset (b ++ (p ∷ r)) m) e
    ∙ ap (λ m. grown_width q + m) (image_offset-at b p r o h) ∙ f
