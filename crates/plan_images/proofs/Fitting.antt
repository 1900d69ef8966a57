-- When areas and years are as images want them: what holds for the first ones, and for one more.
use Rattle.std.proofs.Common.{◌≡◌, ◌↔◌, ℕ, zero, suc, ◌-◌, ◌<◌, ◌≤◌, Bool, true, false, IsTrue, inl, inr, List, [], ◌∷◌, length, get_or, refl, sym, ap, ◌∙◌, subst, arith}
use Rattle.std.specs.Prelude.{All}
use Rattle.std.specs.List.{AllByRecursion}
use Rattle.std.proofs.lemmas.List.{get_or_default}
use Rattle.y2k_base.specs.declared.place.AreaId.{AreaId}
use Rattle.year_pairs.specs.declared.year.Year.{Year}
use Rattle.year_pairs.specs.Years.{AreInOrder, EndsBefore}
use Rattle.window_modes.specs.declared.modes.YearMode.{YearMode}
use Rattle.plan_images.specs.Tables.{years_of}

-- one that fails what all are to be
pub not_all : {X : Type 0} (P : X → Type 0) (xs : List X) (i : ℕ) (d : X) (b : Bool) → i < length xs → (IsTrue b ↔ P (get_or xs i d)) → b ≡ false → IsTrue false ↔ All P xs
not_all P xs i d b l is fails = (
  λ e. absurd (let f : false ≡ true = e in cc),
  λ all. absurd (let f : false ≡ true = sym fails ∙ is.1 (all i d l) in cc),
)

ends_through : (x y z : Year) → EndsBefore x y → EndsBefore y z → EndsBefore x z
ends_through x y z (inl a) (inl b) = inl (omega (arith, a, b))
ends_through x y z (inl a) (inr b) = let e : y.place.area.0 ≡ z.place.area.0 = ap (λ (i : AreaId). i.0) b.0 in inl (omega (arith, a, e))
ends_through x y z (inr a) (inl b) = let e : x.place.area.0 ≡ y.place.area.0 = ap (λ (i : AreaId). i.0) a.0 in inl (omega (arith, b, e))
ends_through x y z (inr a) (inr b) = inr (a.0 ∙ b.0, omega (arith, a.1, b.1))

all_through : (x y : Year) (ys : List Year) → EndsBefore x y → AllByRecursion (EndsBefore y) ys → AllByRecursion (EndsBefore x) ys
all_through x y [] e h = tt
all_through x y (z ∷ ys) e h = (ends_through x y z e h.0, all_through x y ys e h.1)

-- each ends before the next
abbrev pub AreInRow : List YearMode → ℕ → Type 0
AreInRow ms count = (i : ℕ) (d : YearMode) → suc i < count → EndsBefore (get_or ms i d).year (get_or ms (suc i) d).year

in_order_from_row : (ms : List YearMode) → AreInRow ms (length ms) → AreInOrder (years_of ms)
in_order_from_row [] row = tt
in_order_from_row (m ∷ []) row = (tt, tt)
in_order_from_row (m ∷ n ∷ ms) row =
    let first : EndsBefore m.year n.year = row 0 m (omega arith) in
    let later : AreInOrder (years_of (n ∷ ms)) = in_order_from_row (n ∷ ms) (λ i d l. row (suc i) d (omega (arith, l))) in
    ((first, all_through m.year n.year (years_of ms) first later.0), later)

pub in_order : (ms : List YearMode) (count : ℕ) → length ms ≤ count → AreInRow ms count → IsTrue true ↔ AreInOrder (years_of ms)
in_order ms count all row = (λ e. in_order_from_row ms (λ i d l. row i d (omega (arith, l, all))), λ h. refl)

pub among : (y : Year) (ms : List YearMode) (i : ℕ) (d : YearMode) → AllByRecursion (EndsBefore y) (years_of ms) → i < length ms → EndsBefore y (get_or ms i d).year
among y [] i d h l = absurd (omega (arith, l))
among y (m ∷ ms) zero d h l = h.0
among y (m ∷ ms) (suc i) d h l = among y ms i d h.1 (omega (arith, l))

row_from_order : (ms : List YearMode) → AreInOrder (years_of ms) → AreInRow ms (length ms)
row_from_order [] h i d l = absurd (omega (arith, l))
row_from_order (m ∷ ms) h zero d l = among m.year ms 0 d h.0 (omega (arith, l))
row_from_order (m ∷ ms) h (suc i) d l = row_from_order ms h.1 i d (omega (arith, l))

-- two neighbours of which the first does not
pub not_in_order : (ms : List YearMode) (i : ℕ) (d e : YearMode) (b : Bool) → 1 ≤ i → i < length ms → (IsTrue b ↔ EndsBefore (get_or ms (i - 1) d).year (get_or ms i e).year) → b ≡ false → IsTrue false ↔ AreInOrder (years_of ms)
not_in_order ms i d e b low l is fails =
    let next : suc (i - 1) ≡ i = omega (arith, low) in
    let same : get_or ms i d ≡ get_or ms i e = get_or_default ms i d e l in (
      λ f. absurd (let g : false ≡ true = f in cc),
      λ h.
          let here : EndsBefore (get_or ms (i - 1) d).year (get_or ms (suc (i - 1)) d).year = row_from_order ms h (i - 1) d (omega (arith, next, l)) in
          let there : EndsBefore (get_or ms (i - 1) d).year (get_or ms i e).year =
          subst (λ (m : YearMode). EndsBefore (get_or ms (i - 1) d).year m.year) (ap (λ (n : ℕ). get_or ms n d) next ∙ same) here in
          absurd (let g : false ≡ true = sym fails ∙ is.1 there in cc),
    )
