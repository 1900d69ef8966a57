-- Where the pieces of a record with cuts part.
use Rattle.std.proofs.Common.{◌≡◌, ℕ, zero, suc, ◌+◌, ◌-◌, ◌<◌, ◌≤◌, List, [], ◌∷◌, ◌++◌, take, drop, Some, None, slice_get, get_or, refl, sym, ap, ◌∙◌, arith, append_assoc}
use Rattle.std.specs.Prelude.{replicate}
use Rattle.std.proofs.lemmas.List.{replicate-append-replicate}
use Rattle.y2k_base.specs.declared.place.Span.{Span}
use Rattle.year_image.specs.Piece.{Piece, Keep, width, size, grown_size}
use Rattle.year_image.proofs.NumberImages.{size-keep}
use Rattle.year_image.proofs.Offsets.{width_positive}
use Rattle.year_image.proofs.Spans.{size-append, grown_size-append}
use Rattle.file_convert.specs.declared.cut.Cut.{Cut}
use Rattle.file_convert.specs.declared.cut.Cuts.{Cuts}
use Rattle.file_convert.specs.Cuts.{piece_of, pieces, pieces_from, IsInOrder, IsInOrderFrom}
use Rattle.file_convert.proofs.CutLemmas.{size-pieces, grown_size-pieces}
use Rattle.plan_images.specs.Edges.{IsEdge, IsMoved, IsBetween, IsLast, growths}
use Rattle.plan_images.proofs.CutPlaces.{AreBegun, begun_rest, first_ended}
use Rattle.plan_images.proofs.Sums.{same_growths}

kept-kept : (a b c : ℕ) → a ≤ b → b ≤ c → replicate (c - a) Keep ≡ replicate (b - a) Keep ++ replicate (c - b) Keep
kept-kept a b c l m =
    let e : c - a ≡ (b - a) + (c - b) = omega arith in
    ap (λ (n : ℕ). replicate n Keep) e ∙ sym (replicate-append-replicate (b - a) (c - b) Keep)

last_rest : (c : Cut) (cs : List Cut) (count s : ℕ) → ((x : Cut) → IsLast (c ∷ cs) (suc count) x → x.offset + width (piece_of x) ≤ s) → (x : Cut) → IsLast cs count x → x.offset + width (piece_of x) ≤ s
last_rest c cs count s ended x is = let e : suc is.0 + 1 ≡ suc count = omega (arith, is.1) in ended x (suc is.0, e, is.2)

-- at an offset that no cut stands across
parts-from : (at s end : ℕ) (cs : List Cut) (count : ℕ) → IsInOrderFrom at end cs → AreBegun cs count s → at ≤ s → s ≤ end → ((x : Cut) → IsLast cs count x → x.offset + width (piece_of x) ≤ s)
    → (pieces_from at end cs ≡ pieces_from at s (take count cs) ++ pieces_from s end (drop count cs)) × IsInOrderFrom at s (take count cs)
parts-from at s end [] zero h b low within ended = (kept-kept at s end low within, low)
parts-from at s end [] (suc count) h b low within ended = absurd (omega (arith, b.0))
parts-from at s end (c ∷ cs) zero h b low within ended =
    let later : s ≤ c.offset = b.2 0 c (omega arith) (omega arith) in
    let rest = piece_of c ∷ pieces_from (c.offset + width (piece_of c)) end cs in
    (ap (λ (l : List Piece). l ++ rest) (kept-kept at s c.offset low later) ∙ append_assoc (replicate (s - at) Keep) (replicate (c.offset - s) Keep) rest, low)
parts-from at s end (c ∷ cs) (suc count) h b low within ended =
    let p = piece_of c in
    let past : c.offset + width p ≤ s = first_ended at end s c cs count h b ended in
    let r = parts-from (c.offset + width p) s end cs count h.2 (begun_rest c cs count s b) past within (last_rest c cs count s ended) in
    let front = replicate (c.offset - at) Keep in
    let before = pieces_from (c.offset + width p) s (take count cs) in
    let after = pieces_from s end (drop count cs) in
    (ap (λ (l : List Piece). front ++ (p ∷ l)) r.0 ∙ sym (append_assoc front (p ∷ before) after), (h.0, h.1, r.1))

pub edge : (cuts : Cuts) (count s : ℕ) → IsInOrder cuts → AreBegun cuts.list count s → s ≤ cuts.length → ((x : Cut) → IsLast cuts.list count x → x.offset + width (piece_of x) ≤ s) → IsEdge (pieces cuts) s (s + growths (take count cuts.list))
edge cuts count s h b within ended =
    let r = parts-from 0 s cuts.length cuts.list count h.2 b (omega arith) within ended in
    let long = size-pieces 0 s (take count cuts.list) r.1 in
    let grown = grown_size-pieces 0 s (take count cuts.list) r.1 in
    record {
      before = pieces_from 0 s (take count cuts.list);
      after = pieces_from s cuts.length (drop count cuts.list);
      splits = r.0;
      here = omega (arith, long);
      there = omega (arith, grown, same_growths (take count cuts.list));
    }

-- the piece of a cut stands where the cut does
at_cut : (at end : ℕ) (cs : List Cut) (i : ℕ) (c : Cut) → IsInOrderFrom at end cs → slice_get cs i ≡ Some c → (before : List Piece) × (after : List Piece) × (pieces_from at end cs ≡ before ++ (piece_of c ∷ after)) × (at + size before ≡ c.offset)
at_cut at end [] i c h is = absurd (let e : None ≡ Some c = is in cc)
at_cut at end (d ∷ cs) zero c h is =
    let same : d ≡ c = cc in
    let piece : piece_of d ≡ piece_of c = ap piece_of same in
    let offset : d.offset ≡ c.offset = ap (λ (x : Cut). x.offset) same in
    let rest = pieces_from (d.offset + width (piece_of d)) end cs in
    (replicate (d.offset - at) Keep, rest, ap (λ (q : Piece). replicate (d.offset - at) Keep ++ (q ∷ rest)) piece, omega (arith, size-keep (d.offset - at), h.0, offset))
at_cut at end (d ∷ cs) (suc i) c h is =
    let r = at_cut (d.offset + width (piece_of d)) end cs i c h.2 is in
    let front = replicate (d.offset - at) Keep ++ (piece_of d ∷ []) in
    let front' = replicate (d.offset - at) Keep in
    let long : size front ≡ (d.offset - at) + (width (piece_of d) + 0) = size-append front' (piece_of d ∷ []) ∙ ap (λ (n : ℕ). n + (width (piece_of d) + 0)) (size-keep (d.offset - at)) in (
      front ++ r.0,
      r.1,
      ap (λ (l : List Piece). front' ++ (piece_of d ∷ l)) r.2 ∙ sym (append_assoc front' (piece_of d ∷ []) (r.0 ++ (piece_of c ∷ r.1))) ∙ sym (append_assoc front r.0 (piece_of c ∷ r.1)),
      omega (arith, size-append front r.0, long, r.3, h.0),
    )

-- pieces don't part inside a piece
not_across : (b r before after : List Piece) (p : Piece) → b ++ (p ∷ r) ≡ before ++ after → size b < size before → size before < size b + width p → ⊥
not_across [] r [] after p e l m = omega arith
not_across [] r (q ∷ before) after p e l m =
    let head : p ≡ q = cc in
    omega (arith, ap width head, m)
not_across (q ∷ b) r [] after p e l m = omega arith
not_across (q ∷ b) r (q' ∷ before) after p e l m =
    let head : q ≡ q' = cc in
    let tail : b ++ (p ∷ r) ≡ before ++ after = cc in
    let same : width q ≡ width q' = ap width head in
    not_across b r before after p tail (omega (arith, same, l)) (omega (arith, same, m))

pub no_edge : (cuts : Cuts) (count s : ℕ) (c : Cut) → IsInOrder cuts → AreBegun cuts.list count s → IsLast cuts.list count c → s < c.offset + width (piece_of c) → (grown : ℕ) → IsEdge (pieces cuts) s grown → ⊥
no_edge cuts count s c h b last across grown e =
    let at = at_cut 0 cuts.length cuts.list last.0 c h.2 last.2 in
    let begun : (get_or cuts.list last.0 c).offset < s = b.1 last.0 c (omega (arith, last.1)) in
    let is : get_or cuts.list last.0 c ≡ c = is_there cuts.list last.0 c last.2 in
    let offset : (get_or cuts.list last.0 c).offset ≡ c.offset = ap (λ (x : Cut). x.offset) is in
    not_across at.0 at.1 e.before e.after (piece_of c) (sym at.2 ∙ e.splits) (omega (arith, at.3, e.here, begun, offset)) (omega (arith, at.3, e.here, across))
  where
    is_there : (cs : List Cut) (i : ℕ) (x : Cut) → slice_get cs i ≡ Some x → get_or cs i x ≡ x
    is_there [] i x is = refl
    is_there (y ∷ cs) zero x is = let f : Some y ≡ Some x = is in cc
    is_there (y ∷ cs) (suc i) x is = is_there cs i x is

-- what two edges enclose
between : (b a c d : List Piece) → b ++ a ≡ c ++ d → size b ≤ size c → (inside : List Piece) × (c ≡ b ++ inside)
between [] a c d e l = (c, refl)
between (p ∷ b) a [] d e l = absurd (omega (arith, width_positive p, l))
between (p ∷ b) a (q ∷ c) d e l =
    let head : p ≡ q = cc in
    let tail : b ++ a ≡ c ++ d = cc in
    let r = between b a c d tail (omega (arith, ap width head, l)) in
    (r.0, ap (λ (x : Piece). x ∷ c) (sym head) ∙ ap (λ (l : List Piece). p ∷ l) r.1)

pub grown_up : (ps : List Piece) (s t first last : ℕ) → IsEdge ps s first → IsEdge ps t last → s ≤ t → first ≤ last
grown_up ps s t first last e f l =
    let r = between e.before e.after f.before f.after (sym e.splits ∙ f.splits) (omega (arith, e.here, f.here, l)) in
    omega (arith, e.there, f.there, ap grown_size r.1, grown_size-append e.before r.0)

pub moved : (ps : List Piece) (span : Span) (first last : ℕ) → IsEdge ps span.offset first → IsEdge ps (span.offset + span.length) last → IsMoved ps span (record { area = span.area; offset = first; length = last - first })
moved ps span first last e f =
    let r = between e.before e.after f.before f.after (sym e.splits ∙ f.splits) (omega (arith, e.here, f.here)) in
    let begins : first ≡ grown_size e.before = sym e.there in
    let long : last - first ≡ grown_size r.0 = omega (arith, e.there, f.there, ap grown_size r.1, grown_size-append e.before r.0) in
    record {
      before = e.before;
      inside = r.0;
      after = f.after;
      splits = f.splits ∙ ap (λ (l : List Piece). l ++ f.after) r.1 ∙ append_assoc e.before r.0 f.after;
      offset = e.here;
      long = omega (arith, e.here, f.here, ap size r.1, size-append e.before r.0);
      lies = λ i. record { area = span.area; offset = begins i; length = long i };
    }

pub no_begin : (ps : List Piece) (span : Span) → ((grown : ℕ) → IsEdge ps span.offset grown → ⊥) → IsBetween ps span → ⊥
no_begin ps span none h =
    let m = h.1 in
    none (grown_size m.before) (record { before = m.before; after = m.inside ++ m.after; splits = m.splits; here = m.offset; there = refl })

pub no_end : (ps : List Piece) (span : Span) → ((grown : ℕ) → IsEdge ps (span.offset + span.length) grown → ⊥) → IsBetween ps span → ⊥
no_end ps span none h =
    let m = h.1 in
    let front : List Piece = m.before ++ m.inside in
    none (grown_size front) (record {
      before = front;
      after = m.after;
      splits = m.splits ∙ sym (append_assoc m.before m.inside m.after);
      here = size-append m.before m.inside ∙ (let e : size m.before + size m.inside ≡ span.offset + span.length = omega (arith, m.offset, m.long) in e);
      there = refl;
    })
