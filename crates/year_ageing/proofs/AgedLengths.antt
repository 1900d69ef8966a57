-- Pieces keep their lengths when their years are moved.
use Rattle.std.proofs.Common.{◌≡◌, ℕ, ◌+◌, ◌*◌, ◌/◌, ◌%◌, ◌≤◌, List, [], ◌∷◌, length, Option, Some, None, refl, ◌∙◌, arith}
use Rattle.std.specs.Prelude.{ℤ}
use Rattle.byte_lists.specs.HalfBytes.{halves}
use Rattle.byte_lists.specs.Part.{with_part}
use Rattle.year_image.specs.Piece.{Piece, Keep, Pair, Packed, width, grown_width}
use Rattle.year_image.specs.Packing.{year_at}
use Rattle.year_image.proofs.Lengths.{length-halves, length-joined}
use Rattle.file_convert.specs.Cuts.{IsFitting}
use Rattle.file_convert.proofs.Parts.{length-with_part}
use Rattle.year_ageing.specs.declared.side.Side.{Side}
use Rattle.year_ageing.specs.declared.side.Side.TheVariants as sides
use Rattle.year_ageing.specs.Years.{side_width, extra, with_year, year_set, new_year, aged}

pub pair_room : (side : Side) (pivot : Option ℕ) → extra side pivot + 2 ≤ side_width side (Pair pivot)
pair_room sides.Old pivot = omega arith
pair_room sides.New None = omega arith
pair_room sides.New (Some q) = omega arith

pub packed_width : (side : Side) (digits unit : ℕ) (pivot : Option ℕ) → side_width side (Packed digits unit pivot) ≡ (digits + extra side pivot) / 2 + 1
packed_width sides.Old digits unit pivot = omega arith
packed_width sides.New digits unit None = omega arith
packed_width sides.New digits unit (Some q) = omega arith

length-with_year : (side : Side) (p : Piece) (year : ℕ) (bs : List ℕ) → IsFitting p → length bs ≡ side_width side p → length (with_year side p year bs) ≡ length bs
length-with_year side Keep year bs f e = refl
length-with_year side (Pair pivot) year bs f e = length-with_part bs (extra side pivot) ((48 + year / 10) ∷ (48 + year % 10) ∷ []) (omega (arith, e, pair_room side pivot))
length-with_year side (Packed digits unit pivot) year bs f e =
    let hs = halves bs in
    let at = year_at (digits + extra side pivot) unit in
    let ys : List ℕ = year / 10 ∷ year % 10 ∷ [] in
    length-joined (length bs) (with_part hs at ys) (length-with_part hs at ys (omega (arith, f.0, e, packed_width side digits unit pivot, length-halves bs)) ∙ length-halves bs)

length-set : (side : Side) (p : Piece) (bs : List ℕ) (o : Option ℕ) → IsFitting p → length bs ≡ side_width side p → length (year_set side p bs o) ≡ length bs
length-set side p bs None f e = refl
length-set side p bs (Some year) f e = length-with_year side p year bs f e

pub length-aged : (side : Side) (years : ℤ) (p : Piece) (bs : List ℕ) → IsFitting p → length bs ≡ side_width side p → length (aged side years p bs) ≡ side_width side p
length-aged side years p bs f e = length-set side p bs (new_year side years p bs) f e ∙ e
