-- The marks of the pieces of an area are those that the years, and the labels, say.
use Rattle.std.proofs.Common.{◌≡◌, ◌⊎◌, ℕ, zero, suc, ◌+◌, ◌-◌, ◌/◌, ◌<◌, ◌≤◌, Bool, true, false, cond, inl, inr, List, [], ◌∷◌, ◌++◌, length, map, Option, get_or, refl, sym, ap, ◌∙◌, subst, arith, Contains}
use Rattle.std.specs.Prelude.{replicate, filter}
use Rattle.std.proofs.lemmas.Bool.{cases_lt, eqb-true, eq-eqb}
use Rattle.std.proofs.lemmas.List.{get_or_append_left, get_or-append-add}
use Rattle.std.proofs.lemmas.List.Elements.{Contains-append_left, Contains-append_right, Contains-append_cases, Contains-push}
use Rattle.y2k_base.specs.declared.place.BytePlace.{BytePlace}
use Rattle.year_labels.specs.declared.label.Fact.{Fact}
use Rattle.year_labels.specs.declared.label.Label.{Label}
use Rattle.year_labels.specs.declared.label.Label.TheVariants as labels
use Rattle.year_labels.specs.Facts.{fact_of}
use Rattle.year_pairs.specs.declared.year.Year.{Year}
use Rattle.year_pairs.specs.declared.year.YearKind.{YearKind}
use Rattle.year_pairs.specs.declared.year.YearKind.TheVariants as years
use Rattle.year_pairs.specs.Years.{width as year_width, label_at, place_after, IsYear, AreYearsOf}
use Rattle.year_pairs.specs.Lone.{AreCovered, IsByteOfYear}
use Rattle.window_modes.specs.declared.modes.YearMode.{YearMode}
use Rattle.window_modes.specs.Links.{HasByte}
use Rattle.year_image.specs.Piece.{Piece, Keep, width, size}
use Rattle.year_image.specs.Marks.{Mark, Still, Half, halves_from, marks_at, marks}
use Rattle.year_image.proofs.MarkLemmas.{length-marks, length-marks_at, marks-append}
use Rattle.year_image.proofs.NumberImages.{size-keep}
use Rattle.file_convert.specs.declared.cut.Cut.{Cut}
use Rattle.file_convert.specs.declared.cut.Cuts.{Cuts}
use Rattle.file_convert.specs.Cuts.{piece_at, piece_of, pieces, pieces_from, IsInOrder, IsInOrderFrom}
use Rattle.plan_images.specs.Edges.{Covers}
use Rattle.plan_images.specs.Marks.{mark_of, IsMark, IsLabelled}
use Rattle.plan_images.specs.Tables.{table_of, kind_of, cut_of, cuts_in, is_in, byte_at, years_of, AreMarksOf}
use Rattle.plan_images.proofs.CutPlaces.{starts_from}

-- Marks of the pieces of cuts.

kept_mark : (n : ℕ) (r : List Piece) (x : ℕ) → x < n → get_or (marks (replicate n Keep ++ r)) x Still ≡ Still
kept_mark zero r x h = absurd (omega arith)
kept_mark (suc n) r zero h = refl
kept_mark (suc n) r (suc x) h = kept_mark n r x (omega arith)

all_kept : (n x : ℕ) → get_or (marks (replicate n Keep)) x Still ≡ Still
all_kept zero zero = refl
all_kept zero (suc x) = refl
all_kept (suc n) zero = refl
all_kept (suc n) (suc x) = all_kept n x

pub past_mark : (b r : List Piece) (n x : ℕ) → n ≡ size b + x → get_or (marks (b ++ r)) n Still ≡ get_or (marks r) x Still
past_mark b r n x e =
    let long : length (marks b) ≡ size b = length-marks b in
    let f : n ≡ length (marks b) + x = omega (arith, e, long) in
    ap (λ (l : List Mark). get_or l n Still) (marks-append b r) ∙ ap (λ (m : ℕ). get_or (marks b ++ marks r) m Still) f ∙ get_or-append-add (marks b) (marks r) x Still

inside_mark : (p : Piece) (r : List Piece) (k : ℕ) → k < width p → get_or (marks (p ∷ r)) k Still ≡ get_or (marks_at p) k Still
inside_mark p r k l = get_or_append_left (marks_at p) (marks r) Still k (omega (arith, length-marks_at p, l))

-- a byte has the mark of the cut that covers it, or none does
abbrev IsMarkAt : List Cut → ℕ → Mark → Type 0
IsMarkAt cs o mark = ((c : Cut) × Contains cs c × (k : ℕ) × (k < width (piece_of c)) × (o ≡ c.offset + k) × (mark ≡ get_or (marks_at (piece_of c)) k Still))
    ⊎ (((c : Cut) → Contains cs c → Covers c o → ⊥) × (mark ≡ Still))

not_later : (at end : ℕ) (cs : List Cut) (o : ℕ) → IsInOrderFrom at end cs → o < at → (c : Cut) → Contains cs c → Covers c o → ⊥
not_later at end cs o h l c there covers =
    let same : (get_or cs there.0 c).offset ≡ c.offset = ap (λ (x : Cut). x.offset) there.2 in
    omega (arith, starts_from at end cs there.0 c h there.1, same, covers.0, l)

mark-from : (at end : ℕ) (cs : List Cut) (o : ℕ) → IsInOrderFrom at end cs → at ≤ o → o < end → IsMarkAt cs o (get_or (marks (pieces_from at end cs)) (o - at) Still)
mark-from at end [] o h low within = inr (λ c there. absurd (omega (arith, there.1)), all_kept (end - at) (o - at))
mark-from at end (c ∷ cs) o h low within =
    let p = piece_of c in
    let gap : ℕ = c.offset - at in
    let rest = pieces_from (c.offset + width p) end cs in
    let whole = pieces_from at end (c ∷ cs) in
    let long : size (replicate gap Keep) ≡ gap = size-keep gap in
    elim (cases_lt o c.offset) [
      | inl before ↦ inr (
        λ d there covers. elim (Contains-append_cases (c ∷ []) cs d there) [
          | inl here ↦
              let same : c ≡ d = only c d here in
              let offset : c.offset ≡ d.offset = ap (λ (x : Cut). x.offset) same in
              omega (arith, offset, covers.0, before)
          | inr later ↦ not_later (c.offset + width p) end cs o h.2 (omega (arith, before)) d later covers
        ],
        kept_mark gap (p ∷ rest) (o - at) (omega (arith, before, low, h.0)),
      )
      | inr begun ↦ elim (cases_lt o (c.offset + width p)) [
        | inl inside ↦
            let k : ℕ = o - c.offset in
            let e : o - at ≡ size (replicate gap Keep) + k = omega (arith, long, h.0, begun) in
            let l : k < width p = omega (arith, inside, begun) in
            let f : o ≡ c.offset + k = omega (arith, begun) in
            inl (c, Contains-append_left (c ∷ []) cs c (Contains-push [] c), k, l, f, past_mark (replicate gap Keep) (p ∷ rest) (o - at) k e ∙ inside_mark p rest k l)
        | inr past ↦
            let k : ℕ = o - (c.offset + width p) in
            let e : o - at ≡ size (replicate gap Keep) + (width p + k) = omega (arith, long, h.0, past) in
            let f : width p + k ≡ size (p ∷ []) + k = omega arith in
            let there : get_or (marks whole) (o - at) Still ≡ get_or (marks rest) k Still =
            past_mark (replicate gap Keep) (p ∷ rest) (o - at) (width p + k) e ∙ past_mark (p ∷ []) rest (width p + k) k f in
            elim (mark-from (c.offset + width p) end cs o h.2 past within) [
              | inl found ↦ inl (found.0, Contains-append_right (c ∷ []) cs found.0 found.1, found.2, found.3, found.4, there ∙ found.5)
              | inr none ↦ inr (
                λ d at_d covers. elim (Contains-append_cases (c ∷ []) cs d at_d) [
                  | inl here ↦
                      let same : c ≡ d = only c d here in
                      let ends : c.offset + width (piece_of c) ≡ d.offset + width (piece_of d) = ap (λ (x : Cut). x.offset + width (piece_of x)) same in
                      omega (arith, ends, covers.1, past)
                  | inr later ↦ none.0 d later covers
                ],
                there ∙ none.1,
              )
            ]
      ]
    ]
  where
    only : (c d : Cut) → Contains (c ∷ []) d → c ≡ d
    only c d (zero, l, e) = e
    only c d (suc k, l, e) = absurd (omega (arith, l))

-- Cuts of years.

pub same_width : (kind : YearKind) (pivot : Option ℕ) → width (piece_at (kind_of kind) pivot) ≡ year_width kind
same_width years.Pair pivot = refl
same_width (years.Packed digits unit) pivot = refl

half_at : (count index digits unit : ℕ) (pivot : Option ℕ) (i : ℕ) → i < count → get_or (halves_from count index digits unit pivot) i Still ≡ Half digits (index + i) unit pivot
half_at zero index digits unit pivot i l = absurd (omega arith)
half_at (suc count) index digits unit pivot zero l = let e : index ≡ index + 0 = omega arith in ap (λ (n : ℕ). Half digits n unit pivot) e
half_at (suc count) index digits unit pivot (suc i) l =
    let e : suc index + i ≡ index + suc i = omega arith in
    half_at count (suc index) digits unit pivot i (omega arith) ∙ ap (λ (n : ℕ). Half digits n unit pivot) e

kind_mark : (kind : YearKind) (pivot : Option ℕ) (k : ℕ) → k < year_width kind → get_or (marks_at (piece_at (kind_of kind) pivot)) k Still ≡ mark_of (label_at kind k) pivot
kind_mark years.Pair q zero l = refl
kind_mark years.Pair q (suc zero) l = refl
kind_mark years.Pair q (suc (suc k)) l = absurd (omega arith)
kind_mark (years.Packed digits unit) q zero l = refl
kind_mark (years.Packed digits unit) q (suc k) l =
    let e : 1 + k ≡ suc k = omega arith in
    half_at (digits / 2) 1 digits unit q k (omega arith) ∙ ap (λ (n : ℕ). Half digits n unit q) e

-- a year is of the area exactly where its cut is
mapped : (modes : List YearMode) (area : ℕ) (c : Cut) → Contains (cuts_in area modes) c → (mode : YearMode) × Contains modes mode × (mode.year.place.area.0 ≡ area) × (cut_of mode ≡ c)
mapped [] area c there = absurd (omega (arith, there.1))
mapped (m ∷ ms) area c there = of_test (mapped ms area c) (is_in area m) refl there
  where
    later : (mode : YearMode) × Contains ms mode × (mode.year.place.area.0 ≡ area) × (cut_of mode ≡ c) → (mode : YearMode) × Contains (m ∷ ms) mode × (mode.year.place.area.0 ≡ area) × (cut_of mode ≡ c)
    later r = (r.0, Contains-append_right (m ∷ []) ms r.0 r.1, r.2, r.3)

    of_test : (Contains (cuts_in area ms) c → (mode : YearMode) × Contains ms mode × (mode.year.place.area.0 ≡ area) × (cut_of mode ≡ c)) → (b : Bool) → is_in area m ≡ b → Contains (map cut_of (cond b (m ∷ filter (is_in area) ms) (filter (is_in area) ms))) c → (mode : YearMode) × Contains (m ∷ ms) mode × (mode.year.place.area.0 ≡ area) × (cut_of mode ≡ c)
    of_test rest true e (zero, l, f) = (m, Contains-append_left (m ∷ []) ms m (Contains-push [] m), eqb-true m.year.place.area.0 area e, f)
    of_test rest true e (suc k, l, f) = later (rest (k, omega (arith, l), f))
    of_test rest false e at = later (rest at)

among : (modes : List YearMode) (area : ℕ) (mode : YearMode) → Contains modes mode → mode.year.place.area.0 ≡ area → Contains (cuts_in area modes) (cut_of mode)
among [] area mode there e = absurd (omega (arith, there.1))
among (m ∷ ms) area mode (zero, l, f) e =
    let is : is_in area m ≡ true = eq-eqb m.year.place.area.0 area (ap (λ (x : YearMode). x.year.place.area.0) f ∙ e) in
    let P : Bool → Type 0 = λ b. Contains (map cut_of (cond b (m ∷ filter (is_in area) ms) (filter (is_in area) ms))) (cut_of mode) in
    subst P (sym is) (0, omega arith, ap cut_of f)
among (m ∷ ms) area mode (suc k, l, f) e =
    let later : Contains (cuts_in area ms) (cut_of mode) = among ms area mode (k, omega (arith, l), f) e in
    of_test (is_in area m) later
  where
    of_test : (b : Bool) → Contains (cuts_in area ms) (cut_of mode) → Contains (map cut_of (cond b (m ∷ filter (is_in area) ms) (filter (is_in area) ms))) (cut_of mode)
    of_test true at = Contains-append_right (cut_of m ∷ []) (cuts_in area ms) (cut_of mode) at
    of_test false at = at

pub same_place : (area offset : ℕ) (place : BytePlace) → place.area.0 ≡ area → place.offset ≡ offset → place ≡ byte_at area offset
same_place area offset place e f = λ i. record { area = record { 0 = e i }; offset = f i }

of_years : (modes : List YearMode) (area o : ℕ) (mark : Mark) → IsMarkAt (cuts_in area modes) o mark → IsMark modes (byte_at area o) mark
of_years modes area o mark (inl h) =
    let r = mapped modes area h.0 h.1 in
    let mode = r.0 in
    let k = h.2 in
    let piece : piece_of h.0 ≡ piece_of (cut_of mode) = ap piece_of (sym r.3) in
    let offset : mode.year.place.offset ≡ h.0.offset = ap (λ (x : Cut). x.offset) r.3 in
    let l : k < year_width mode.year.kind = omega (arith, h.3, ap width piece, same_width mode.year.kind mode.pivot) in
    let o_is : mode.year.place.offset + k ≡ o = omega (arith, offset, h.4) in
    let e : mark ≡ mark_of (label_at mode.year.kind k) mode.pivot = h.5 ∙ ap (λ (x : Piece). get_or (marks_at x) k Still) piece ∙ kind_mark mode.year.kind mode.pivot k l in
    inl (mode, r.1, (k, l, sym (same_place area o (place_after mode.year.place k) r.2 o_is), e))
of_years modes area o mark (inr h) = inr (
  λ mode at has.
      let area_is : area ≡ mode.year.place.area.0 = ap (λ (x : BytePlace). x.area.0) has.2 in
      let offset : o ≡ mode.year.place.offset + has.0 = ap (λ (x : BytePlace). x.offset) has.2 in
      h.0 (cut_of mode) (among modes area mode at (sym area_is)) (omega (arith, offset), omega (arith, offset, has.1, same_width mode.year.kind mode.pivot)),
  h.1,
)

pub marked : (modes : List YearMode) (area n : ℕ) (table : Cuts) → IsInOrder table → table ≡ table_of modes area n → AreMarksOf modes area n (pieces table)
marked modes area n table h e = λ o within.
    let long : table.length ≡ n = ap (λ (x : Cuts). x.length) e in
    let all : o - 0 ≡ o = omega arith in
    let at : IsMarkAt table.list o (get_or (marks (pieces table)) (o - 0) Still) = mark-from 0 table.length table.list o h.2 (omega arith) (omega (arith, long, within)) in
    let at' : IsMarkAt table.list o (get_or (marks (pieces table)) o Still) = subst (λ (n : ℕ). IsMarkAt table.list o (get_or (marks (pieces table)) n Still)) all at in
    of_years modes area o (get_or (marks (pieces table)) o Still) (subst (λ (cs : List Cut). IsMarkAt cs o (get_or (marks (pieces table)) o Still)) (ap (λ (x : Cuts). x.list) e) at')

-- Labels.

of_year : (kind : YearKind) (k : ℕ) → label_at kind k ≡ labels.Plain → ⊥
of_year years.Pair zero e = let f : labels.Tens ≡ labels.Plain = e in cc
of_year years.Pair (suc k) e = let f : labels.Units ≡ labels.Plain = e in cc
of_year (years.Packed digits unit) k e = let f : labels.Packed digits unit k ≡ labels.Plain = e in cc

mode_of : (modes : List YearMode) (year : Year) → Contains (years_of modes) year → (mode : YearMode) × Contains modes mode × (mode.year ≡ year)
mode_of [] year there = absurd (omega (arith, there.1))
mode_of (m ∷ ms) year (zero, l, e) = (m, Contains-append_left (m ∷ []) ms m (Contains-push [] m), e)
mode_of (m ∷ ms) year (suc k, l, e) = let r = mode_of ms year (k, omega (arith, l), e) in (r.0, Contains-append_right (m ∷ []) ms r.0 r.1, r.2)

year_of : (modes : List YearMode) (mode : YearMode) → Contains modes mode → Contains (years_of modes) mode.year
year_of [] mode there = absurd (omega (arith, there.1))
year_of (m ∷ ms) mode (zero, l, e) = (0, omega arith, ap (λ (x : YearMode). x.year) e)
year_of (m ∷ ms) mode (suc k, l, e) = Contains-append_right (m.year ∷ []) (years_of ms) mode.year (year_of ms mode (k, omega (arith, l), e))

no_year : (facts : List Fact) (modes : List YearMode) (place : BytePlace) → AreYearsOf facts (years_of modes) → ((mode : YearMode) → Contains modes mode → HasByte mode.year place → ⊥) → (label : Label) → IsByteOfYear facts (fact_of place label) → ⊥
no_year facts modes place years none label h =
    let r = mode_of modes h.0 ((years.same h.0).1 h.2) in
    let here : place ≡ place_after h.0.place h.1 = ap (λ (f : Fact). f.place) h.4 in
    let has : HasByte h.0 place = (h.1, h.3, here) in
    none r.0 r.1 (subst (λ (y : Year). HasByte y place) (sym r.2) has)

only_plain : (facts : List Fact) (modes : List YearMode) (place : BytePlace) → AreYearsOf facts (years_of modes) → AreCovered facts → ((mode : YearMode) → Contains modes mode → HasByte mode.year place → ⊥)
    → (label : Label) → Contains facts (fact_of place label) → label ≡ labels.Plain
only_plain facts modes place years covered none labels.Plain at = refl
only_plain facts modes place years covered none labels.Tens at = absurd (no_year facts modes place years none labels.Tens (covered (fact_of place labels.Tens) at (λ e. let f : labels.Tens ≡ labels.Plain = e in cc)))
only_plain facts modes place years covered none labels.Units at = absurd (no_year facts modes place years none labels.Units (covered (fact_of place labels.Units) at (λ e. let f : labels.Units ≡ labels.Plain = e in cc)))
only_plain facts modes place years covered none (labels.Packed d u k) at = absurd (no_year facts modes place years none (labels.Packed d u k) (covered (fact_of place (labels.Packed d u k)) at (λ e. let f : labels.Packed d u k ≡ labels.Plain = e in cc)))

pub by_labels : (facts : List Fact) (modes : List YearMode) (place : BytePlace) (mark : Mark) → AreYearsOf facts (years_of modes) → AreCovered facts → IsMark modes place mark → IsLabelled facts modes place mark
by_labels facts modes place mark years covered (inl h) =
    let mode = h.0 in
    let k = h.2.0 in
    let is : IsYear facts mode.year = (years.same mode.year).0 (year_of modes mode h.1) in
    let label = label_at mode.year.kind k in
    inl (label, subst (λ (p : BytePlace). Contains facts (fact_of p label)) (sym h.2.2) (is k h.2.1), of_year mode.year.kind k, mode, h.1, (k, h.2.1, h.2.2), h.2.3)
by_labels facts modes place mark years covered (inr h) = inr (only_plain facts modes place years covered h.0, h.1)
