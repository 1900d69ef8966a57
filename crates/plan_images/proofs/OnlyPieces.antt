-- The pieces of an area are the only ones with the marks that the years say.
use Rattle.std.proofs.Common.{◌≡◌, ℕ, zero, suc, ◌+◌, ◌<◌, inl, inr, List, [], ◌∷◌, length, get_or, refl, sym, ap, ◌∙◌, subst, arith, Contains}
use Rattle.std.proofs.lemmas.Bool.{cases_lt}
use Rattle.std.proofs.lemmas.List.{get_or_default}
use Rattle.y2k_base.specs.declared.place.BytePlace.{BytePlace}
use Rattle.year_pairs.specs.declared.year.Year.{Year}
use Rattle.year_pairs.specs.Years.{label_at, AreInOrder, EndsBefore}
use Rattle.window_modes.specs.declared.modes.YearMode.{YearMode}
use Rattle.window_modes.specs.Links.{HasByte}
use Rattle.year_image.specs.Piece.{Piece, size}
use Rattle.year_image.specs.Marks.{Mark, Still, marks}
use Rattle.year_image.proofs.MarkLemmas.{length-marks, marks-same}
use Rattle.plan_images.specs.Marks.{mark_of, IsMark}
use Rattle.plan_images.specs.Tables.{byte_at, years_of, AreMarksOf}
use Rattle.plan_images.proofs.Fitting.{among}

-- years in order share no byte
no_share : (y z : Year) (place : BytePlace) → EndsBefore y z → HasByte y place → HasByte z place → ⊥
no_share y z place before h g =
    let area_y : place.area.0 ≡ y.place.area.0 = ap (λ (p : BytePlace). p.area.0) h.2 in
    let area_z : place.area.0 ≡ z.place.area.0 = ap (λ (p : BytePlace). p.area.0) g.2 in
    let at_y : place.offset ≡ y.place.offset + h.0 = ap (λ (p : BytePlace). p.offset) h.2 in
    let at_z : place.offset ≡ z.place.offset + g.0 = ap (λ (p : BytePlace). p.offset) g.2 in
    elim before [ inl less ↦ omega (arith, less, area_y, area_z) | inr ends ↦ omega (arith, ends.1, at_y, at_z, h.1) ]

apart : (modes : List YearMode) (i j : ℕ) (d : YearMode) → AreInOrder (years_of modes) → i < j → j < length modes → EndsBefore (get_or modes i d).year (get_or modes j d).year
apart [] i j d h l m = absurd (omega (arith, m))
apart (x ∷ xs) i zero d h l m = absurd (omega (arith, l))
apart (x ∷ xs) zero (suc j) d h l m = among x.year xs j d h.0 (omega (arith, m))
apart (x ∷ xs) (suc i) (suc j) d h l m = apart xs i j d h.1 (omega (arith, l)) (omega (arith, m))

before : (modes : List YearMode) (m n : YearMode) (at : Contains modes m) (there : Contains modes n) → AreInOrder (years_of modes) → at.0 < there.0 → EndsBefore m.year n.year
before modes m n at there h l =
    let second : get_or modes there.0 m ≡ n = get_or_default modes there.0 m n there.1 ∙ there.2 in
    let ends : EndsBefore (get_or modes at.0 m).year (get_or modes there.0 m).year = apart modes at.0 there.0 m h l there.1 in
    subst (λ (x : YearMode). EndsBefore m.year x.year) second (subst (λ (x : YearMode). EndsBefore x.year (get_or modes there.0 m).year) at.2 ends)

one_year : (modes : List YearMode) (m n : YearMode) (place : BytePlace) → AreInOrder (years_of modes) → Contains modes m → Contains modes n → HasByte m.year place → HasByte n.year place → m ≡ n
one_year modes m n place h at there of_m of_n = elim (cases_lt at.0 there.0) [
  | inl less ↦ absurd (no_share m.year n.year place (before modes m n at there h less) of_m of_n)
  | inr up ↦ elim (cases_lt there.0 at.0) [
    | inl more ↦ absurd (no_share n.year m.year place (before modes n m there at h more) of_n of_m)
    | inr down ↦
        let same : at.0 ≡ there.0 = omega (arith, up, down) in
        sym at.2 ∙ get_or_default modes at.0 m n at.1 ∙ ap (λ (i : ℕ). get_or modes i n) same ∙ there.2
  ]
]

same_mark : (modes : List YearMode) (place : BytePlace) (a b : Mark) → AreInOrder (years_of modes) → IsMark modes place a → IsMark modes place b → a ≡ b
same_mark modes place a b h (inl f) (inl g) =
    let m = f.0 in
    let n = g.0 in
    let same : m ≡ n = one_year modes m n place h f.1 g.1 (f.2.0, f.2.1, f.2.2) (g.2.0, g.2.1, g.2.2) in
    let at_m : place.offset ≡ m.year.place.offset + f.2.0 = ap (λ (p : BytePlace). p.offset) f.2.2 in
    let at_n : place.offset ≡ n.year.place.offset + g.2.0 = ap (λ (p : BytePlace). p.offset) g.2.2 in
    let begins : m.year.place.offset ≡ n.year.place.offset = ap (λ (x : YearMode). x.year.place.offset) same in
    let k : f.2.0 ≡ g.2.0 = omega (arith, at_m, at_n, begins) in
    f.2.3 ∙ ap (λ (i : ℕ). mark_of (label_at m.year.kind i) m.pivot) k ∙ ap (λ (x : YearMode). mark_of (label_at x.year.kind g.2.0) x.pivot) same ∙ sym g.2.3
same_mark modes place a b h (inl f) (inr g) = absurd (g.0 f.0 f.1 (f.2.0, f.2.1, f.2.2))
same_mark modes place a b h (inr f) (inl g) = absurd (f.0 g.0 g.1 (g.2.0, g.2.1, g.2.2))
same_mark modes place a b h (inr f) (inr g) = f.1 ∙ sym g.1

pub same_marks : (xs ys : List Mark) → length xs ≡ length ys → ((i : ℕ) → i < length xs → get_or xs i Still ≡ get_or ys i Still) → xs ≡ ys
same_marks [] [] e h = refl
same_marks [] (y ∷ ys) e h = absurd (omega (arith, e))
same_marks (x ∷ xs) [] e h = absurd (omega (arith, e))
same_marks (x ∷ xs) (y ∷ ys) e h =
    let rest : xs ≡ ys = same_marks xs ys (omega (arith, e)) (λ i l. h (suc i) (omega (arith, l))) in
    let first : x ≡ y = h 0 (omega arith) in
    ap (λ (m : Mark). m ∷ xs) first ∙ ap (λ (l : List Mark). y ∷ l) rest

pub only : (modes : List YearMode) (area n : ℕ) (ps qs : List Piece) → AreInOrder (years_of modes) → size ps ≡ n → size qs ≡ n → AreMarksOf modes area n ps → AreMarksOf modes area n qs → ps ≡ qs
only modes area n ps qs h sp sq mp mq =
    let long : length (marks ps) ≡ length (marks qs) = length-marks ps ∙ sp ∙ sym sq ∙ sym (length-marks qs) in
    marks-same ps qs (same_marks (marks ps) (marks qs) long (λ i l.
    let within : i < n = omega (arith, l, length-marks ps, sp) in
    same_mark modes (byte_at area i) (get_or (marks ps) i Still) (get_or (marks qs) i Still) h (mp i within) (mq i within)))
