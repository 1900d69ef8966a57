-- What is known of the pieces of cuts.
use Rattle.std.proofs.Common.{◌≡◌, ℕ, zero, suc, ◌+◌, ◌-◌, List, [], ◌∷◌, ◌++◌, arith}
use Rattle.std.specs.Prelude.{replicate}
use Rattle.year_image.specs.Piece.{Piece, Keep, Pair, Packed, width, size}
use Rattle.year_image.specs.Text.{YearsFit}
use Rattle.file_convert.specs.Cuts.{piece_of, pieces, pieces_from, IsFitting, IsInOrder, IsInOrderFrom}
use Rattle.file_convert.specs.declared.cut.Cut.{Cut}
use Rattle.file_convert.specs.declared.cut.Cuts.{Cuts}
use Rattle.file_convert.proofs.CutLemmas.{size-pieces}

-- they make up the whole record
pub size-of : (cuts : Cuts) → IsInOrder cuts → size (pieces cuts) ≡ cuts.length
size-of cuts h = omega (arith, size-pieces 0 cuts.length cuts.list h.2)

fit-after : (k : ℕ) (ps : List Piece) → YearsFit ps → YearsFit (replicate k Keep ++ ps)
fit-after zero ps h = h
fit-after (suc k) ps h = fit-after k ps h

fit-first : (p : Piece) (ps : List Piece) → IsFitting p → YearsFit ps → YearsFit (p ∷ ps)
fit-first Keep ps f h = h
fit-first (Pair pivot) ps f h = h
fit-first (Packed digits unit pivot) ps f h = (f.0, h)

fit-kept : (k : ℕ) → YearsFit (replicate k Keep)
fit-kept zero = tt
fit-kept (suc k) = fit-kept k

fit-from : (at end : ℕ) (cs : List Cut) → IsInOrderFrom at end cs → YearsFit (pieces_from at end cs)
fit-from at end [] h = fit-kept (end - at)
fit-from at end (c ∷ cs) h =
    fit-after (c.offset - at) (piece_of c ∷ pieces_from (c.offset + width (piece_of c)) end cs)
    (fit-first (piece_of c) (pieces_from (c.offset + width (piece_of c)) end cs) h.1 (fit-from (c.offset + width (piece_of c)) end cs h.2))

-- the year of each packed number stands within its digits
pub years_fit-of : (cuts : Cuts) → IsInOrder cuts → YearsFit (pieces cuts)
years_fit-of cuts h = fit-from 0 cuts.length cuts.list h.2
