-- How many bytes the images of the first cuts are longer.
use Rattle.std.proofs.Common.{◌≡◌, ℕ, zero, suc, ◌+◌, ◌<◌, ◌≤◌, List, [], ◌∷◌, ◌++◌, length, take, get_or, refl, ap, ◌∙◌, arith}
use Rattle.std.proofs.lemmas.List.{take_more}
use Rattle.year_image.specs.Piece.{width}
use Rattle.year_image.proofs.Offsets.{width_positive}
use Rattle.file_convert.specs.declared.cut.Cut.{Cut}
use Rattle.file_convert.specs.declared.cut.Cuts.{Cuts}
use Rattle.file_convert.specs.Cuts.{piece_of, IsInOrder, IsInOrderFrom}
use Rattle.file_convert.proofs.CutLemmas as cut_lemmas
use Rattle.plan_images.specs.Edges.{growth, growths, sums_from}

pub same_growths : (cs : List Cut) → cut_lemmas.growths cs ≡ growths cs
same_growths [] = refl
same_growths (c ∷ cs) = ap (λ (n : ℕ). growth c + n) (same_growths cs)

pub growths-append : (cs ds : List Cut) → growths (cs ++ ds) ≡ growths cs + growths ds
growths-append [] ds = omega arith
growths-append (c ∷ cs) ds = omega (arith, growths-append cs ds)

growths-take : (count : ℕ) (cs : List Cut) → growths (take count cs) ≤ growths cs
growths-take zero cs = omega arith
growths-take (suc count) [] = omega arith
growths-take (suc count) (c ∷ cs) = omega (arith, growths-take count cs)

-- an image is at most twice as long
pub growths_low : (count : ℕ) (cuts : Cuts) → IsInOrder cuts → growths (take count cuts.list) ≤ cuts.length
growths_low count cuts h =
    let all : 0 + cut_lemmas.growths cuts.list ≤ cuts.length = cut_lemmas.growths_le 0 cuts.length cuts.list h.2 in
    omega (arith, all, same_growths cuts.list, growths-take count cuts.list)

pub growths-more : (cs : List Cut) (i : ℕ) (d : Cut) → i < length cs → growths (take (i + 1) cs) ≡ growths (take i cs) + growth (get_or cs i d)
growths-more cs i d l =
    let e : growths (take i cs) + (growth (get_or cs i d) + 0) ≡ growths (take i cs) + growth (get_or cs i d) = omega arith in
    ap growths (take_more cs i d l) ∙ growths-append (take i cs) (get_or cs i d ∷ []) ∙ e

-- one more is no longer than an image
pub growth_low : (cuts : Cuts) (i : ℕ) (d : Cut) → IsInOrder cuts → i < length cuts.list → growths (take i cuts.list) + growth (get_or cuts.list i d) ≤ 65535
growth_low cuts i d h l = omega (arith, growths-more cuts.list i d l, growths_low (i + 1) cuts h, h.1)

-- there are at most as many as bytes
counts : (at end : ℕ) (cs : List Cut) → IsInOrderFrom at end cs → at + length cs ≤ end
counts at end [] h = omega (arith, h)
counts at end (c ∷ cs) h = let r : c.offset + width (piece_of c) + length cs ≤ end = counts (c.offset + width (piece_of c)) end cs h.2 in omega (arith, h.0, r, width_positive (piece_of c))

pub count_low : (cuts : Cuts) → IsInOrder cuts → length cuts.list ≤ 65535
count_low cuts h = let r : 0 + length cuts.list ≤ cuts.length = counts 0 cuts.length cuts.list h.2 in omega (arith, r, h.1)

pub length-sums : (sum : ℕ) (cs : List Cut) → length (sums_from sum cs) ≡ suc (length cs)
length-sums sum [] = refl
length-sums sum (c ∷ cs) = ap suc (length-sums (sum + growth c) cs)

pub sums-at : (sum : ℕ) (cs : List Cut) (count d : ℕ) → count ≤ length cs → get_or (sums_from sum cs) count d ≡ sum + growths (take count cs)
sums-at sum [] zero d l = omega arith
sums-at sum [] (suc count) d l = absurd (omega arith)
sums-at sum (c ∷ cs) zero d l = omega arith
sums-at sum (c ∷ cs) (suc count) d l = omega (arith, sums-at (sum + growth c) cs count d (omega arith))

sums-push : (sum : ℕ) (cs : List Cut) (c : Cut) → sums_from sum (cs ++ c ∷ []) ≡ sums_from sum cs ++ (sum + (growths cs + growth c)) ∷ []
sums-push sum [] c = let e : sum + growth c ≡ sum + (0 + growth c) = omega arith in ap (λ (n : ℕ). sum ∷ n ∷ []) e
sums-push sum (b ∷ cs) c =
    let e : sum + growth b + (growths cs + growth c) ≡ sum + (growth b + growths cs + growth c) = omega arith in
    ap (λ (l : List ℕ). sum ∷ l) (sums-push (sum + growth b) cs c ∙ ap (λ (n : ℕ). sums_from (sum + growth b) cs ++ n ∷ []) e)

pub sums-more : (cs : List Cut) (i : ℕ) (d : Cut) → i < length cs → sums_from 0 (take (i + 1) cs) ≡ sums_from 0 (take i cs) ++ (growths (take i cs) + growth (get_or cs i d)) ∷ []
sums-more cs i d l =
    let e : 0 + (growths (take i cs) + growth (get_or cs i d)) ≡ growths (take i cs) + growth (get_or cs i d) = omega arith in
    ap (sums_from 0) (take_more cs i d l) ∙ sums-push 0 (take i cs) (get_or cs i d) ∙ ap (λ (n : ℕ). sums_from 0 (take i cs) ++ n ∷ []) e
