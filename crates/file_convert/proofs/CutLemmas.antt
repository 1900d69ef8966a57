-- Sizes of the pieces of cuts.
use Rattle.std.proofs.Common.{◌≡◌, ℕ, zero, suc, ◌+◌, ◌-◌, ◌*◌, ◌<◌, ◌≤◌, List, [], ◌∷◌, ◌++◌, length, take, drop, Some, None, sym, ap, ◌∙◌, subst, arith, append_assoc, append-nil, length-append, length-drop, get_or}
use Rattle.std.specs.Prelude.{replicate}
use Rattle.year_image.specs.Piece.{Piece, Keep, Pair, Packed, width, grown_width, size, grown_size}
use Rattle.year_image.proofs.Spans.{size-append, grown_size-append}
use Rattle.year_image.proofs.NumberImages.{size-keep, grown_size-keep}
use Rattle.file_convert.specs.declared.cut.Cut.{Cut}
use Rattle.file_convert.specs.declared.cut.CutKind.TheVariants as kinds
use Rattle.std.proofs.lemmas.List.{drop_more, drop-drop, length-take-le, take-append-drop, take_all, drop_all}
use Rattle.year_image.specs.Image.{grow, image}
use Rattle.byte_lists.specs.Part.{part, with_part}
use Rattle.year_image.proofs.Lengths.{length-grow}
use Rattle.year_image.proofs.Spans.{image-append}
use Rattle.year_image.proofs.NumberImages.{image-keep}
use Rattle.file_convert.specs.Cuts.{piece_of, pieces_from, IsFitting, IsInOrderFrom}
use Rattle.file_convert.proofs.Parts.{take-with_part}

pub grown_width-ge : (p : Piece) → (width p ≤ grown_width p) × (grown_width p ≤ 2 * width p)
grown_width-ge Keep = (omega arith, omega arith)
grown_width-ge (Pair None) = (omega arith, omega arith)
grown_width-ge (Pair (Some q)) = (omega arith, omega arith)
grown_width-ge (Packed digits unit None) = (omega arith, omega arith)
grown_width-ge (Packed digits unit (Some q)) = (omega arith, omega arith)

-- how many bytes the images of cuts are longer
abbrev pub growths : List Cut → ℕ
growths [] = 0
growths (c ∷ cs) = (grown_width (piece_of c) - width (piece_of c)) + growths cs

pub order_end : (at end : ℕ) (cs : List Cut) → IsInOrderFrom at end cs → at ≤ end
order_end at end [] h = h
order_end at end (c ∷ cs) h = let r = order_end (c.offset + width (piece_of c)) end cs h.2 in omega (arith, h.0, r)

pub size-pieces : (at end : ℕ) (cs : List Cut) → IsInOrderFrom at end cs → at + size (pieces_from at end cs) ≡ end
size-pieces at end [] h = omega (arith, size-keep (end - at))
size-pieces at end (c ∷ cs) h =
    let p = piece_of c in
    let r : c.offset + width p + size (pieces_from (c.offset + width p) end cs) ≡ end = size-pieces (c.offset + width p) end cs h.2 in
    omega (arith, h.0, r, size-append (replicate (c.offset - at) Keep) (p ∷ pieces_from (c.offset + width p) end cs), size-keep (c.offset - at))

pub grown_size-pieces : (at end : ℕ) (cs : List Cut) → IsInOrderFrom at end cs → at + grown_size (pieces_from at end cs) ≡ end + growths cs
grown_size-pieces at end [] h = omega (arith, grown_size-keep (end - at))
grown_size-pieces at end (c ∷ cs) h =
    let p = piece_of c in
    let r : c.offset + width p + grown_size (pieces_from (c.offset + width p) end cs) ≡ end + growths cs = grown_size-pieces (c.offset + width p) end cs h.2 in
    omega (arith, h.0, r, grown_width-ge p, grown_size-append (replicate (c.offset - at) Keep) (p ∷ pieces_from (c.offset + width p) end cs), grown_size-keep (c.offset - at))

pub growths_le : (at end : ℕ) (cs : List Cut) → IsInOrderFrom at end cs → at + growths cs ≤ end
growths_le at end [] h = omega (arith, h)
growths_le at end (c ∷ cs) h =
    let p = piece_of c in
    let r : c.offset + width p + growths cs ≤ end = growths_le (c.offset + width p) end cs h.2 in
    omega (arith, h.0, r, grown_width-ge p)

pub growth_le : (c : Cut) (a b : ℕ) → a ≡ grown_width (piece_of c) → b ≡ width (piece_of c) → a ≤ b + 2
growth_le c a b ea eb = omega (arith, two (piece_of c), ea, eb)
  where
    two : (p : Piece) → grown_width p ≤ width p + 2
    two Keep = omega arith
    two (Pair None) = omega arith
    two (Pair (Some q)) = omega arith
    two (Packed digits unit None) = omega arith
    two (Packed digits unit (Some q)) = omega arith

-- what a read past the end would give
abbrev pub no_cut : Cut
no_cut = record { offset = 0; kind = kinds.Pair; pivot = None }

-- each cut fits, and lies within the record
pub fits_at : (at end : ℕ) (cs : List Cut) (i : ℕ) → IsInOrderFrom at end cs → i < length cs → IsFitting (piece_of (get_or cs i no_cut)) × ((get_or cs i no_cut).offset + width (piece_of (get_or cs i no_cut)) ≤ end)
fits_at at end [] i h l = absurd (omega arith)
fits_at at end (c ∷ cs) zero h l = (h.1, order_end (c.offset + width (piece_of c)) end cs h.2)
fits_at at end (c ∷ cs) (suc i) h l = fits_at (c.offset + width (piece_of c)) end cs i h.2 (omega arith)

-- the next cut, and the order after it
pub order_more : (at end : ℕ) (cs : List Cut) (i : ℕ) → i < length cs → IsInOrderFrom at end (drop i cs) → IsInOrderFrom at end (get_or cs i no_cut ∷ drop (i + 1) cs)
order_more at end cs i l h = let P : List Cut → Type 0 = λ d. IsInOrderFrom at end d in subst P (drop_more cs i no_cut l) h

-- one cut more is written
pub written_step : (from to end : ℕ) (c : Cut) (cs : List Cut) (source into new whole : List ℕ) → IsInOrderFrom from end (c ∷ cs) → length source ≡ end → to + grown_size (pieces_from from end (c ∷ cs)) ≡ length into → new ≡ with_part into to (part source from (c.offset - from) ++ grow 48 (piece_of c) (part source c.offset (width (piece_of c)))) → take to into ++ image 48 (pieces_from from end (c ∷ cs)) (drop from source) ≡ whole → take (to + (c.offset - from + grown_width (piece_of c))) new ++ image 48 (pieces_from (c.offset + width (piece_of c)) end cs) (drop (c.offset + width (piece_of c)) source) ≡ whole
written_step from to end c cs source into new whole h ls room e w =
    let p = piece_of c in
    let gap = c.offset - from in
    let ps = pieces_from (c.offset + width p) end cs in
    let inside : c.offset + width p ≤ end = order_end (c.offset + width p) end cs h.2 in
    let xs = take gap (drop from source) in
    let lx : length xs ≡ gap = length-take-le gap (drop from source) (omega (arith, h.0, length-drop from source)) in
    let sum : from + gap ≡ c.offset = omega (arith, h.0) in
    let rest : drop gap (drop from source) ≡ drop c.offset source = drop-drop gap from source ∙ ap (λ n. drop n source) sum in
    let g = grow 48 p (part source c.offset (width p)) in
    let lp : length (part source c.offset (width p)) ≡ width p = length-take-le (width p) (drop c.offset source) (omega (arith, length-drop c.offset source)) in
    let lg : length g ≡ grown_width p = length-grow 48 p (part source c.offset (width p)) lp in
    let before : image 48 (replicate gap Keep ++ (p ∷ ps)) (drop from source) ≡ xs ++ (g ++ image 48 ps (drop (c.offset + width p) source)) =
    ap (image 48 (replicate gap Keep ++ (p ∷ ps))) (sym (take-append-drop gap (drop from source)))
    ∙ image-append 48 (replicate gap Keep) (p ∷ ps) xs (drop gap (drop from source)) (lx ∙ sym (size-keep gap))
    ∙ ap (λ (l : List ℕ). l ++ image 48 (p ∷ ps) (drop gap (drop from source))) (image-keep 48 gap xs lx)
    ∙ ap (λ (l : List ℕ). xs ++ image 48 (p ∷ ps) l) rest
    ∙ ap (λ (l : List ℕ). xs ++ (g ++ image 48 ps l)) (drop-drop (width p) c.offset source) in
    let count : to + (gap + grown_width p) ≡ to + length (xs ++ g) = omega (arith, length-append xs g) in
    let within : to ≤ length into = omega (arith, room) in
    let here : take (to + (gap + grown_width p)) new ≡ take to into ++ (xs ++ g) =
    ap (take (to + (gap + grown_width p))) e ∙ take-with_part into to (to + (gap + grown_width p)) (xs ++ g) count within in
    ap (λ (l : List ℕ). l ++ image 48 ps (drop (c.offset + width p) source)) here
    ∙ append_assoc (take to into) (xs ++ g) (image 48 ps (drop (c.offset + width p) source))
    ∙ ap (λ (l : List ℕ). take to into ++ l) (append_assoc xs g (image 48 ps (drop (c.offset + width p) source)) ∙ sym before) ∙ w

-- the rest is written
pub written_last : (from to end : ℕ) (source into new whole : List ℕ) → from ≤ end → length source ≡ end → to + grown_size (pieces_from from end []) ≡ length into → new ≡ with_part into to (take (length source - from) (drop from source)) → take to into ++ image 48 (pieces_from from end []) (drop from source) ≡ whole → new ≡ whole
written_last from to end source into new whole h ls room e w =
    let ys = drop from source in
    let ly : length ys ≡ end - from = omega (arith, length-drop from source) in
    let all : take (length source - from) ys ≡ ys = take_all (length source - from) ys (omega arith) in
    let none : drop (to + length ys) into ≡ [] = drop_all (to + length ys) into (omega (arith, room, grown_size-keep (end - from))) in
    e ∙ ap (with_part into to) all ∙ ap (λ (l : List ℕ). take to into ++ (ys ++ l)) none ∙ ap (λ (l : List ℕ). take to into ++ l) (append-nil ys)
    ∙ ap (λ (l : List ℕ). take to into ++ l) (sym (image-keep 48 (end - from) ys ly)) ∙ w
