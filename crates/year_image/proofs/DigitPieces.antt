-- The pieces of the digits of a packed number, with and without the zero in front.
use Rattle.std.proofs.Common.{◌≡◌, ℕ, suc, ◌+◌, ◌-◌, ◌%◌, ◌≤◌, ◌∷◌, ◌++◌, Option, ap, arith}
use Rattle.std.specs.Prelude.{replicate}
use Rattle.year_image.specs.Piece.{Keep, Pair, size}
use Rattle.year_image.specs.Packing.{year_at}
use Rattle.year_image.specs.Views.{half_pieces, digit_pieces}
use Rattle.year_image.proofs.Spans.{size-append}
use Rattle.year_image.proofs.NumberImages.{size-keep}

pub half_pieces-odd : (digits unit : ℕ) (pivot : Option ℕ) → digits % 2 ≡ 1 → unit + 2 ≤ digits → half_pieces digits unit pivot ≡ digit_pieces digits unit pivot
half_pieces-odd digits unit pivot odd fit =
    let e : year_at digits unit ≡ digits - 2 - unit = omega arith in
    ap (λ n. replicate n Keep ++ (Pair pivot ∷ replicate unit Keep)) e

pub half_pieces-even : (digits unit : ℕ) (pivot : Option ℕ) → digits % 2 ≡ 0 → unit + 2 ≤ digits → half_pieces digits unit pivot ≡ Keep ∷ digit_pieces digits unit pivot
half_pieces-even digits unit pivot even fit =
    let e : year_at digits unit ≡ suc (digits - 2 - unit) = omega arith in
    ap (λ n. replicate n Keep ++ (Pair pivot ∷ replicate unit Keep)) e

pub size-digit_pieces : (digits unit : ℕ) (pivot : Option ℕ) → unit + 2 ≤ digits → size (digit_pieces digits unit pivot) ≡ digits
size-digit_pieces digits unit pivot fit =
    omega (arith, size-append (replicate (digits - 2 - unit) Keep) (Pair pivot ∷ replicate unit Keep), size-keep (digits - 2 - unit), size-keep unit)
