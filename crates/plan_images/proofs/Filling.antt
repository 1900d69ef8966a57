-- The tables of areas, filled year by year.
use Rattle.std.proofs.Common.{◌≡◌, ℕ, zero, suc, ◌+◌, ◌<◌, ◌≤◌, true, false, cond, inl, inr, List, [], ◌∷◌, length, map, get_or, refl, sym, ap, ◌∙◌, subst, arith, Contains}
use Rattle.std.specs.Prelude.{slice_get, Some, filter, All}
use Rattle.std.specs.List.{AllByRecursion}
use Rattle.std.proofs.lemmas.Bool.{eqb-true}
use Rattle.std.proofs.lemmas.List.Elements.{All-contains, All-from_get_or, Contains-append_left, Contains-append_right, Contains-push}
use Rattle.year_pairs.specs.declared.year.Year.{Year}
use Rattle.year_labels.specs.declared.label.Fact.{Fact}
use Rattle.year_pairs.specs.Years.{width as year_width, AreInOrder, EndsBefore, AreYearsOf}
use Rattle.year_labels.specs.declared.rule.RuleForm.{RuleForm}
use Rattle.window_modes.specs.declared.modes.WindowGroup.{WindowGroup}
use Rattle.window_modes.specs.Modes.{AreModesOf}
use Rattle.window_modes.specs.declared.modes.YearMode.{YearMode}
use Rattle.year_image.specs.Piece.{width, size}
use Rattle.year_image.specs.Marks.{Still, marks}
use Rattle.file_convert.specs.declared.cut.Cuts.{Cuts}
use Rattle.file_convert.specs.Cuts.{piece_of, pieces, IsFitting, IsInOrder, IsInOrderFrom}
use Rattle.plan_images.specs.Tables.{cut_of, cuts_in, is_in, byte_at, years_of, table_of, no_cuts, cuts_at, IsLength, IsPlaced, AreFit, AreTables, AreMarksOf, AreImagesOf, AreLabelled}
use Rattle.file_convert.proofs.PieceLaws.{size-of}
use Rattle.plan_images.proofs.OnlyPieces.{only}
use Rattle.plan_images.proofs.MarkLaws.{same_width, marked, by_labels}

-- The cuts of an area are in order.

later_in : (y : Year) (ms : List YearMode) → AllByRecursion (EndsBefore y) (years_of ms) → (m : YearMode) → Contains ms m → EndsBefore y m.year
later_in y [] h m at = absurd (omega (arith, at.1))
later_in y (n ∷ ms) h m (zero, l, e) = subst (λ (x : YearMode). EndsBefore y x.year) e h.0
later_in y (n ∷ ms) h m (suc k, l, e) = later_in y ms h.1 m (k, omega (arith, l), e)

-- what a year of the area has to be
abbrev Suits : ℕ → ℕ → ℕ → YearMode → Type 0
Suits area at end m = m.year.place.area.0 ≡ area → (at ≤ m.year.place.offset) × (m.year.place.offset + year_width m.year.kind ≤ end) × IsFitting (piece_of (cut_of m))

ordered-from : (modes : List YearMode) (area at end : ℕ) → AreInOrder (years_of modes) → ((m : YearMode) → Contains modes m → Suits area at end m) → at ≤ end → IsInOrderFrom at end (cuts_in area modes)
ordered-from [] area at end h suits low = low
ordered-from (m ∷ ms) area at end h suits low =
    let rest : (x : YearMode) → Contains ms x → Contains (m ∷ ms) x = λ x there. Contains-append_right (m ∷ []) ms x there in
    elim (is_in area m) as (λ b. is_in area m ≡ b → IsInOrderFrom at end (map cut_of (cond b (m ∷ filter (is_in area) ms) (filter (is_in area) ms)))) [
      | true ↦ λ e.
          let here : m.year.place.area.0 ≡ area = eqb-true m.year.place.area.0 area e in
          let s = suits m (Contains-append_left (m ∷ []) ms m (Contains-push [] m)) here in
          let wide = same_width m.year.kind m.pivot in
          let behind : m.year.place.offset + width (piece_of (cut_of m)) ≤ end = omega (arith, s.1, wide) in (
            s.0,
            s.2,
            ordered-from ms area (m.year.place.offset + width (piece_of (cut_of m))) end h.1 (λ x there is.
                let t = suits x (rest x there) is in (
                  elim (later_in m.year ms h.0 x there) [
                    | inl less ↦ absurd (omega (arith, less, here, is))
                    | inr later ↦ omega (arith, later.1, wide)
                  ],
                  t.1,
                  t.2,
                )) behind,
          )
      | false ↦ λ e. ordered-from ms area at end h.1 (λ x there. suits x (rest x there)) low
    ] refl

pub table_ordered : (lengths : List ℕ) (modes : List YearMode) (area : ℕ) → AreFit lengths modes → area < length lengths → IsInOrder (table_of modes area (get_or lengths area 0))
table_ordered lengths modes area fit l =
    let size = get_or lengths area 0 in
    let bound : IsLength size = fit.bounded area 0 l in (
      bound.0,
      bound.1,
      ordered-from modes area 0 size fit.ordered (λ m at here.
          let placed : IsPlaced lengths m = All-contains (IsPlaced lengths) modes m fit.placed at in
          let same : get_or lengths m.year.place.area.0 0 ≡ size = ap (λ (n : ℕ). get_or lengths n 0) here in
          (omega arith, omega (arith, placed.ends, same), placed.fits)) (omega arith),
    )

-- What is known of all tables.

pub all_ordered : (lengths : List ℕ) (modes : List YearMode) (tables : List Cuts) → AreFit lengths modes → AreTables lengths modes tables → All IsInOrder tables
all_ordered lengths modes tables fit t = All-from_get_or IsInOrder tables no_cuts (λ i l.
    subst IsInOrder (sym (t.1 i (omega (arith, l, t.0)))) (table_ordered lengths modes i fit (omega (arith, l, t.0))))

pub images : (lengths : List ℕ) (modes : List YearMode) (tables : List Cuts) → AreFit lengths modes → AreTables lengths modes tables → AreImagesOf lengths modes tables
images lengths modes tables fit t = record {
  long = t.0;
  each = λ area l.
      let is : cuts_at tables area ≡ table_of modes area.0 (get_or lengths area.0 0) = t.1 area.0 l in
      let ordered : IsInOrder (cuts_at tables area) = subst IsInOrder (sym is) (table_ordered lengths modes area.0 fit l) in
      let n : ℕ = get_or lengths area.0 0 in
      let table = cuts_at tables area in
      let long : size (pieces table) ≡ n = size-of table ordered ∙ ap (λ (x : Cuts). x.length) is in
      let marks : AreMarksOf modes area.0 n (pieces table) = marked modes area.0 n table ordered is in
      record {
        cuts = is;
        ordered = ordered;
        long = long;
        marked = marks;
        only = λ ps total same. only modes area.0 n ps (pieces table) fit.ordered total long same marks;
      };
}

pub labelled : (lengths : List ℕ) (modes : List YearMode) (tables : List Cuts) → AreImagesOf lengths modes tables → AreLabelled modes tables
labelled lengths modes tables h facts years covered area l offset within =
    let table = h.each area (omega (arith, l, h.long)) in
    let long : (cuts_at tables area).length ≡ get_or lengths area.0 0 = ap (λ (x : Cuts). x.length) table.cuts in
    by_labels facts modes (byte_at area.0 offset) (get_or (marks (pieces (cuts_at tables area))) offset Still) years covered (table.marked offset (omega (arith, long, within)))

-- What a caller knows of the years and their modes.

same_years : (modes : List YearMode) (years : List Year) → length modes ≡ length years → ((i : ℕ) (d : YearMode) → i < length years → slice_get years i ≡ Some (get_or modes i d).year) → years_of modes ≡ years
same_years [] [] e h = refl
same_years [] (y ∷ ys) e h = absurd (omega (arith, e))
same_years (m ∷ ms) [] e h = absurd (omega (arith, e))
same_years (m ∷ ms) (y ∷ ys) e h =
    let first : Some y ≡ Some m.year = h 0 m (omega arith) in
    let head : m.year ≡ y = cc in
    let tail : years_of ms ≡ ys = same_years ms ys (omega (arith, e)) (λ i d l. h (suc i) d (omega (arith, l))) in
    ap (λ (x : Year). x ∷ years_of ms) head ∙ ap (λ (l : List Year). y ∷ l) tail

-- the modes of years are of these years
pub years_of-modes : (years : List Year) (links : List RuleForm) (groups : List WindowGroup) (modes : List YearMode) → AreModesOf years links groups modes → years_of modes ≡ years
years_of-modes years links groups modes h = same_years modes years h.long (λ i d l. (h.each i d l).year)

-- and stand in order
pub modes_in_order : (facts : List Fact) (years : List Year) (links : List RuleForm) (groups : List WindowGroup) (modes : List YearMode) → AreYearsOf facts years → AreModesOf years links groups modes → AreInOrder (years_of modes)
modes_in_order facts years links groups modes y h = subst AreInOrder (sym (years_of-modes years links groups modes h)) y.ordered
