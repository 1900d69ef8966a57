-- Bytes of years in a sorted set: their order, and those of a span.
use Rattle.std.proofs.Common.{cond, ◌≡◌, ◌⊎◌, ◌↔◌, inl, inr, arith, ℕ, ◌+◌, ◌-◌, ◌<◌, ◌≤◌, Bool, true, false, not, ◌&&◌, List, [], ◌∷◌, length, slice_get, refl, sym, ap, ◌∙◌, subst, Contains, Some}
use Rattle.std.specs.declared.cmp.Ordering.{Ordering}
use Rattle.std.specs.declared.cmp.Ordering.TheVariants.{Less, Equal, Greater}
use Rattle.std.specs.Ordering.{nat_cmp, ordering_then, MatchOrdering, is_le}
use Rattle.std.specs.BTreeSet.{insert_key}
use Rattle.std.specs.List.{filter}
use Rattle.std.proofs.lemmas.Bool.{cases_lt}
use Rattle.std.proofs.lemmas.Cmp.{ranked}
use Rattle.std.proofs.lemmas.Map.Lookups.{exact_unsigned}
use Rattle.std.proofs.lemmas.Option.{slice_get_within}
use Rattle.std.proofs.lemmas.List.Elements.{Contains-append_left, Contains-append_right, Contains-append_cases, Contains-push, Contains-push_cases}
use Rattle.y2k_base.specs.declared.place.BytePlace.{BytePlace}
use Rattle.y2k_base.specs.declared.place.Span.{Span}
use Rattle.year_labels.proofs.Keys.{insert_key-new, insert_key-old, insert_key-cases}
use Rattle.year_pairs.specs.declared.year.Year.{Year}
use Rattle.year_pairs.specs.Years.{width, place_after}
use Rattle.label_spread.specs.Steps.{IsInSpan}
use Rattle.window_modes.specs.declared.index.YearByte.{YearByte}
use Rattle.window_modes.specs.contracts.index.YearByteOrd.TheImpl as derived
use Rattle.window_modes.specs.Links.{HasByte}
use Rattle.window_modes.specs.Work.{byte_cmp, byte_at, is_between, bytes_between, IsIndexOf, IsIndexUpTo, HasBytesUpTo}

pub same_cmp : (a b : YearByte) → derived.ghosts.cmp a b ≡ byte_cmp a b
same_cmp a b = refl

then_equal : (r s : Ordering) → ordering_then r s ≡ Equal → (r ≡ Equal) × (s ≡ Equal)
then_equal Less s e = absurd (let f : Less ≡ Equal = e in cc)
then_equal Equal s e = (refl, e)
then_equal Greater s e = absurd (let f : Greater ≡ Equal = e in cc)

pub byte_exact : (a b : YearByte) → byte_cmp a b ≡ Equal → a ≡ b
byte_exact a b e =
    let first = then_equal (ordering_then (nat_cmp a.place.area.0 b.place.area.0) (nat_cmp a.place.offset b.place.offset)) (nat_cmp a.year b.year) e in
    let second = then_equal (nat_cmp a.place.area.0 b.place.area.0) (nat_cmp a.place.offset b.place.offset) first.0 in
    let area : a.place.area.0 ≡ b.place.area.0 = exact_unsigned a.place.area.0 b.place.area.0 second.0 in
    let offset : a.place.offset ≡ b.place.offset = exact_unsigned a.place.offset b.place.offset second.1 in
    let year : a.year ≡ b.year = exact_unsigned a.year b.year first.1 in
    λ i. byte_at (record { area = record { 0 = area i }; offset = offset i }) (year i)

pub inserted : (old new : List YearByte) (b : YearByte) → new ≡ insert_key byte_cmp old b → (c : YearByte) → Contains new c ↔ (Contains old c ⊎ (b ≡ c))
inserted old new b e c = (
  λ at. insert_key-cases byte_cmp byte_exact old b c (subst (λ (ks : List YearByte). Contains ks c) e at),
  λ h. subst (λ (ks : List YearByte). Contains ks c) (sym e) (elim h [
    | inl before ↦ insert_key-old byte_cmp byte_exact old b c before
    | inr is ↦ subst (λ (x : YearByte). Contains (insert_key byte_cmp old b) x) is (insert_key-new byte_cmp byte_exact old b)
  ]),
)

-- whether a place with no year in front is up to a byte
place_le_by : (a o x y z : ℕ) (r s t : Ordering) → MatchOrdering r (a < x) (a ≡ x) (x < a) → MatchOrdering s (o < y) (o ≡ y) (y < o) → MatchOrdering t (0 < z) (0 ≡ z) (z < 0) →
    (is_le (ordering_then (ordering_then r s) t) ≡ true) ↔ ((a < x) ⊎ ((a ≡ x) × (o ≤ y)))
place_le_by a o x y z Less s t m n p = (λ e. inl m, λ h. refl)
place_le_by a o x y z Equal Less t m n p = (λ e. inr (m, omega (arith, n)), λ h. refl)
place_le_by a o x y z Equal Equal Less m n p = (λ e. inr (m, omega (arith, n)), λ h. refl)
place_le_by a o x y z Equal Equal Equal m n p = (λ e. inr (m, omega (arith, n)), λ h. refl)
place_le_by a o x y z Equal Equal Greater m n p = absurd (omega (arith, p))
place_le_by a o x y z Equal Greater t m n p = (
  λ e. absurd (let f : false ≡ true = e in cc),
  λ h. elim h [ inl less ↦ absurd (omega (arith, less, m)) | inr same ↦ absurd (omega (arith, same.1, n)) ],
)
place_le_by a o x y z Greater s t m n p = (
  λ e. absurd (let f : false ≡ true = e in cc),
  λ h. elim h [ inl less ↦ absurd (omega (arith, less, m)) | inr same ↦ absurd (omega (arith, same.0, m)) ],
)

place_le : (a o x y z : ℕ) → (is_le (ordering_then (ordering_then (nat_cmp a x) (nat_cmp o y)) (nat_cmp 0 z)) ≡ true) ↔ ((a < x) ⊎ ((a ≡ x) × (o ≤ y)))
place_le a o x y z = place_le_by a o x y z (nat_cmp a x) (nat_cmp o y) (nat_cmp 0 z) (ranked a x _ refl) (ranked o y _ refl) (ranked 0 z _ refl)

both_true : (b c : Bool) → (b && not c) ≡ true → (b ≡ true) × (c ≡ true → ⊥)
both_true true true e = absurd (let f : false ≡ true = e in cc)
both_true true false e = (refl, λ h. absurd (let f : false ≡ true = h in cc))
both_true false c e = absurd (let f : false ≡ true = e in cc)

true_both : (b c : Bool) → b ≡ true → (c ≡ true → ⊥) → (b && not c) ≡ true
true_both true true e none = absurd (none refl)
true_both true false e none = refl
true_both false c e none = absurd (let f : false ≡ true = e in cc)

abbrev up_to : ℕ → ℕ → YearByte → Bool
up_to area offset b = is_le (byte_cmp (byte_at (record { area = record { 0 = area }; offset = offset }) 0) b)

in_between : (area from to : ℕ) (b : YearByte) → (is_between (record { 0 = area }) from to b ≡ true) ↔ ((area ≡ b.place.area.0) × (from ≤ b.place.offset) × (b.place.offset < to))
in_between area from to b =
    let low = place_le area from b.place.area.0 b.place.offset b.year in
    let high = place_le area to b.place.area.0 b.place.offset b.year in (
      λ e.
          let parts : (up_to area from b ≡ true) × (up_to area to b ≡ true → ⊥) = both_true (up_to area from b) (up_to area to b) e in
          elim (low.0 parts.0) [
            | inl less ↦ absurd (parts.1 (high.1 (inl less)))
            | inr same ↦ elim (cases_lt b.place.offset to) [
              | inl within ↦ (same.0, same.1, within)
              | inr past ↦ absurd (parts.1 (high.1 (inr (same.0, past))))
            ]
          ],
      λ h. true_both (up_to area from b) (up_to area to b) (low.1 (inr (h.0, h.1))) (λ e. elim (high.0 e) [
        | inl less ↦ omega (arith, less, h.0)
        | inr same ↦ omega (arith, same.1, h.2)
      ]),
    )

kept_in : {X : Type 0} (p : X → Bool) (xs : List X) (x : X) → Contains (filter p xs) x ↔ (Contains xs x × (p x ≡ true))
kept_in {X} p [] x = (λ at. absurd (omega (arith, at.1)), λ h. absurd (omega (arith, h.0.1)))
kept_in {X} p (y ∷ ys) x =
    let more : Contains (filter p ys) x → Contains (y ∷ ys) x × (p x ≡ true) = λ at. (Contains-append_right (y ∷ []) ys x ((kept_in p ys x).0 at).0, ((kept_in p ys x).0 at).1) in
    elim (p y) as (λ (b : Bool). p y ≡ b → Contains (cond b (y ∷ filter p ys) (filter p ys)) x ↔ (Contains (y ∷ ys) x × (p x ≡ true))) [
      | true ↦ λ e. (
        λ at. elim (Contains-append_cases (y ∷ []) (filter p ys) x at) [
          | inl first ↦ elim (Contains-push_cases [] y x first) [
            | inl none ↦ absurd (omega (arith, none.1))
            | inr is ↦ (subst (λ (z : X). Contains (y ∷ ys) z) is (Contains-append_left (y ∷ []) ys y (Contains-push [] y)), ap p (sym is) ∙ e)
          ]
          | inr rest ↦ more rest
        ],
        λ h. elim (Contains-append_cases (y ∷ []) ys x h.0) [
          | inl first ↦ Contains-append_left (y ∷ []) (filter p ys) x first
          | inr rest ↦ Contains-append_right (y ∷ []) (filter p ys) x ((kept_in p ys x).1 (rest, h.1))
        ],
      )
      | false ↦ λ e. (
        more,
        λ h. elim (Contains-append_cases (y ∷ []) ys x h.0) [
          | inl first ↦ elim (Contains-push_cases [] y x first) [
            | inl none ↦ absurd (omega (arith, none.1))
            | inr is ↦ absurd (let f : false ≡ true = sym e ∙ ap p is ∙ h.1 in cc)
          ]
          | inr rest ↦ (kept_in p ys x).1 (rest, h.1)
        ],
      )
    ] refl

pub in_span : (bytes found : List YearByte) (span : Span) → found ≡ bytes_between span.area span.offset (span.offset + span.length) bytes → (b : YearByte) → Contains found b ↔ (Contains bytes b × IsInSpan span b.place)
in_span bytes found span e b =
    let test : YearByte → Bool = is_between span.area span.offset (span.offset + span.length) in
    let between = in_between span.area.0 span.offset (span.offset + span.length) b in (
      λ at.
          let h : Contains bytes b × (test b ≡ true) = (kept_in test bytes b).0 (subst (λ (xs : List YearByte). Contains xs b) e at) in
          let within : (span.area.0 ≡ b.place.area.0) × (span.offset ≤ b.place.offset) × (b.place.offset < span.offset + span.length) = between.0 h.1 in
          let k : ℕ = b.place.offset - span.offset in
          let offset : b.place.offset ≡ span.offset + k = omega (arith, within.1) in
          let low : k < span.length = omega (arith, within.1, within.2) in
          (h.0, (k, low, λ i. record { area = record { 0 = sym within.0 i }; offset = offset i })),
      λ h.
          let area : span.area.0 ≡ b.place.area.0 = ap (λ (p : BytePlace). p.area.0) (sym h.1.2) in
          let offset : b.place.offset ≡ span.offset + h.1.0 = ap (λ (p : BytePlace). p.offset) h.1.2 in
          subst (λ (xs : List YearByte). Contains xs b) (sym e) ((kept_in test bytes b).1 (h.0, between.1 (area, omega (arith, offset), omega (arith, offset, h.1.1)))),
    )

-- The index of years.

pub no_bytes : (y : Year) (number : ℕ) (old : List YearByte) → HasBytesUpTo y 0 number old old
no_bytes y number old b = (λ at. inl at, λ h. elim h [ inl at ↦ at | inr none ↦ absurd (omega (arith, none.1)) ])

pub byte_more : (y : Year) (number index : ℕ) (old now next : List YearByte) → ((c : YearByte) → Contains next c ↔ (Contains now c ⊎ (byte_at (place_after y.place index) number ≡ c))) → HasBytesUpTo y index number old now → HasBytesUpTo y (index + 1) number old next
byte_more y number index old now next added a c = (
  λ at. elim ((added c).0 at) [
    | inl before ↦ elim ((a c).0 before) [
      | inl there ↦ inl there
      | inr h ↦ inr (h.0, omega (arith, h.1), h.2)
    ]
    | inr is ↦ inr (index, omega arith, is)
  ],
  λ h. elim h [
    | inl there ↦ (added c).1 (inl ((a c).1 (inl there)))
    | inr one ↦ elim (cases_lt one.0 index) [
      | inl below ↦ (added c).1 (inl ((a c).1 (inr (one.0, below, one.2))))
      | inr last ↦
          let is : one.0 ≡ index = omega (arith, last, one.1) in
          (added c).1 (inr (ap (λ (k : ℕ). byte_at (place_after y.place k) number) (sym is) ∙ one.2))
    ]
  ],
)

pub no_years : (years : List Year) → IsIndexUpTo years 0 []
no_years years b = (λ at. absurd (omega (arith, at.1)), λ h. absurd (omega (arith, h.0)))

some_same : {X : Type 0} (x y : X) → Some x ≡ Some y → x ≡ y
some_same {X} x y e = cc

pub year_more : (years : List Year) (number : ℕ) (y : Year) (now next : List YearByte) → slice_get years number ≡ Some y → HasBytesUpTo y (width y.kind) number now next → IsIndexUpTo years number now → IsIndexUpTo years (number + 1) next
year_more years number y now next is added a b = (
  λ at. elim ((added b).0 at) [
    | inl before ↦ (omega (arith, ((a b).0 before).0), ((a b).0 before).1)
    | inr one ↦
        let number_is : number ≡ b.year = ap (λ (c : YearByte). c.year) one.2 in
        let place : b.place ≡ place_after y.place one.0 = ap (λ (c : YearByte). c.place) (sym one.2) in
        (omega (arith, number_is), (y, ap (slice_get years) (sym number_is) ∙ is, (one.0, one.1, place)))
  ],
  λ h. elim (cases_lt b.year number) [
    | inl below ↦ (added b).1 (inl ((a b).1 (below, h.1)))
    | inr last ↦
        let number_is : b.year ≡ number = omega (arith, last, h.0) in
        let same : h.1.0 ≡ y = some_same h.1.0 y (sym h.1.1 ∙ ap (slice_get years) number_is ∙ is) in
        let byte : HasByte y b.place = subst (λ (z : Year). HasByte z b.place) same h.1.2 in
        (added b).1 (inr (byte.0, byte.1, λ i. byte_at (sym byte.2 i) (sym number_is i)))
  ],
)

pub index_all : (years : List Year) (count : ℕ) (bytes : List YearByte) → length years ≤ count → IsIndexUpTo years count bytes → IsIndexOf years bytes
index_all years count bytes all a b = (
  λ at. ((a b).0 at).1,
  λ h. (a b).1 (omega (arith, slice_get_within years b.year h.0 h.1), h),
)
