-- Where a byte stands in the image of a record with cuts.
use Rattle.std.proofs.Common.{◌≡◌, ℕ, zero, suc, ◌+◌, ◌-◌, ◌<◌, ◌≤◌, cond, inl, inr, List, [], ◌∷◌, ◌++◌, length, take, refl, ap, ◌∙◌, arith}
use Rattle.std.specs.Prelude.{replicate}
use Rattle.std.proofs.lemmas.Bool.{cases_lt, lt-leb}
use Rattle.std.proofs.lemmas.List.{take_all}
use Rattle.year_image.specs.Piece.{Piece, Keep, width, grown_width, size, grown_size}
use Rattle.year_image.specs.Offset.{image_offset}
use Rattle.year_image.proofs.Offsets.{image_offset-at}
use Rattle.year_image.proofs.NumberImages.{size-keep, grown_size-keep}
use Rattle.file_convert.specs.declared.cut.Cut.{Cut}
use Rattle.file_convert.specs.declared.cut.Cuts.{Cuts}
use Rattle.file_convert.specs.Cuts.{piece_of, pieces, pieces_from, IsInOrder, IsInOrderFrom}
use Rattle.file_convert.proofs.CutLemmas.{grown_width-ge, grown_size-pieces}
use Rattle.plan_images.specs.Edges.{growths}
use Rattle.plan_images.proofs.CutPlaces.{AreBegun, begun_rest, none_begun}
use Rattle.plan_images.proofs.Sums.{same_growths}

image_offset-past : (b r : List Piece) (x : ℕ) → image_offset (b ++ r) (size b + x) ≡ grown_size b + image_offset r x
image_offset-past [] r x =
    let e : 0 + x ≡ x = omega arith in
    let f : image_offset r x ≡ 0 + image_offset r x = omega arith in
    ap (image_offset r) e ∙ f
image_offset-past (q ∷ b) r x =
    let n : ℕ = width q + size b + x in
    let e : n - width q ≡ size b + x = omega arith in
    let f : grown_width q + (grown_size b + image_offset r x) ≡ grown_width q + grown_size b + image_offset r x = omega arith in
    ap (λ t. cond t (n + (grown_width q - width q)) (grown_width q + image_offset (b ++ r) (n - width q))) (lt-leb (n + 1) (width q) (omega arith))
    ∙ ap (λ (m : ℕ). grown_width q + image_offset (b ++ r) m) e
    ∙ ap (λ (m : ℕ). grown_width q + m) (image_offset-past b r x) ∙ f

-- before the end of kept bytes, and behind them if nothing follows
image_offset-kept : (n : ℕ) (r : List Piece) (x : ℕ) → x < n → image_offset (replicate n Keep ++ r) x ≡ x
image_offset-kept zero r x h = absurd (omega arith)
image_offset-kept (suc n) r zero h = refl
image_offset-kept (suc n) r (suc x) h =
    let e : suc x ≡ size (Keep ∷ []) + x = omega arith in
    let f : 1 + 0 + x ≡ suc x = omega arith in
    ap (image_offset (Keep ∷ (replicate n Keep ++ r))) e ∙ image_offset-past (Keep ∷ []) (replicate n Keep ++ r) x
    ∙ ap (λ (m : ℕ). 1 + 0 + m) (image_offset-kept n r x (omega arith)) ∙ f

image_offset-all : (n x : ℕ) → image_offset (replicate n Keep) x ≡ x
image_offset-all zero x = refl
image_offset-all (suc n) zero = refl
image_offset-all (suc n) (suc x) =
    let e : suc x ≡ size (Keep ∷ []) + x = omega arith in
    let f : 1 + 0 + x ≡ suc x = omega arith in
    ap (image_offset (Keep ∷ replicate n Keep)) e ∙ image_offset-past (Keep ∷ []) (replicate n Keep) x
    ∙ ap (λ (m : ℕ). 1 + 0 + m) (image_offset-all n x) ∙ f

-- a byte moves by what the cuts that begin up to it get
image_offset-from : (at end : ℕ) (cs : List Cut) (count o : ℕ) → IsInOrderFrom at end cs → AreBegun cs count (o + 1) → at ≤ o → o < end → at + image_offset (pieces_from at end cs) (o - at) ≡ o + growths (take count cs)
image_offset-from at end [] zero o h b low within = omega (arith, low, image_offset-all (end - at) (o - at))
image_offset-from at end [] (suc count) o h b low within = absurd (omega (arith, b.0))
image_offset-from at end (c ∷ cs) zero o h b low within =
    let later : o + 1 ≤ c.offset = b.2 0 c (omega arith) (omega arith) in
    omega (arith, low, image_offset-kept (c.offset - at) (piece_of c ∷ pieces_from (c.offset + width (piece_of c)) end cs) (o - at) (omega (arith, later, low)))
image_offset-from at end (c ∷ cs) (suc count) o h b low within =
    let p = piece_of c in
    let gap : ℕ = c.offset - at in
    let rest = pieces_from (c.offset + width p) end cs in
    let begun : c.offset < o + 1 = b.1 0 c (omega arith) in
    let kept : size (replicate gap Keep) ≡ gap = size-keep gap in
    let grown : grown_size (replicate gap Keep) ≡ gap = grown_size-keep gap in
    let wide = grown_width-ge p in
    elim (cases_lt o (c.offset + width p)) [
      | inl inside ↦
          let e : o - at ≡ size (replicate gap Keep) + (o - c.offset) = omega (arith, kept, h.0, begun) in
          let there : image_offset (replicate gap Keep ++ (p ∷ rest)) (o - at) ≡ grown_size (replicate gap Keep) + ((o - c.offset) + (grown_width p - width p)) =
          ap (image_offset (replicate gap Keep ++ (p ∷ rest))) e ∙ image_offset-at (replicate gap Keep) p rest (o - c.offset) (omega (arith, inside, begun)) in
          let none : count ≡ 0 = none_begun at end (o + 1) c cs count h b (omega (arith, inside)) in
          let zero_more : growths (take count cs) ≡ 0 = ap (λ (n : ℕ). growths (take n cs)) none in
          omega (arith, there, grown, zero_more, h.0, begun, wide.0)
      | inr past ↦
          let e : o - at ≡ size (replicate gap Keep) + (o - c.offset) = omega (arith, kept, h.0, begun) in
          let f : o - c.offset ≡ size (p ∷ []) + (o - (c.offset + width p)) = omega (arith, past) in
          let there : image_offset (replicate gap Keep ++ (p ∷ rest)) (o - at) ≡ grown_size (replicate gap Keep) + image_offset (p ∷ rest) (o - c.offset) =
          ap (image_offset (replicate gap Keep ++ (p ∷ rest))) e ∙ image_offset-past (replicate gap Keep) (p ∷ rest) (o - c.offset) in
          let behind : image_offset (p ∷ rest) (o - c.offset) ≡ grown_size (p ∷ []) + image_offset rest (o - (c.offset + width p)) =
          ap (image_offset (p ∷ rest)) f ∙ image_offset-past (p ∷ []) rest (o - (c.offset + width p)) in
          let later : c.offset + width p + image_offset rest (o - (c.offset + width p)) ≡ o + growths (take count cs) =
          image_offset-from (c.offset + width p) end cs count o h.2 (begun_rest c cs count (o + 1) b) past within in
          omega (arith, there, behind, later, grown, h.0, begun, wide.0)
    ]

pub offset_after : (cuts : Cuts) (count o : ℕ) → IsInOrder cuts → AreBegun cuts.list count (o + 1) → o < cuts.length → o + growths (take count cuts.list) ≡ image_offset (pieces cuts) o
offset_after cuts count o h b within =
    let e : o - 0 ≡ o = omega arith in
    let there : 0 + image_offset (pieces cuts) (o - 0) ≡ o + growths (take count cuts.list) = image_offset-from 0 cuts.length cuts.list count o h.2 b (omega arith) within in
    omega (arith, there, ap (image_offset (pieces cuts)) e)

pub length_after : (cuts : Cuts) (count : ℕ) → IsInOrder cuts → count ≡ length cuts.list → cuts.length + growths (take count cuts.list) ≡ grown_size (pieces cuts)
length_after cuts count h all =
    let whole : growths (take count cuts.list) ≡ growths cuts.list = ap growths (take_all count cuts.list (omega (arith, all))) in
    let grown = grown_size-pieces 0 cuts.length cuts.list h.2 in
    omega (arith, whole, grown, same_growths cuts.list)
