-- The digits of years in a view, and the years that a rule links, by the bytes that are found.
use Rattle.std.proofs.Common.{◌≡◌, ◌⊎◌, ◌↔◌, inl, inr, arith, ℕ, ◌+◌, ◌<◌, ◌≤◌, List, [], ◌∷◌, ◌++◌, length, take, get_or, slice_get, refl, sym, ap, ◌∙◌, subst, Contains, Option, Some}
use Rattle.std.proofs.lemmas.List.{take_more, take_all}
use Rattle.std.proofs.lemmas.Option.{slice_get_within}
use Rattle.std.proofs.lemmas.List.Elements.{Contains-append_left, Contains-push, Contains-push_cases}
use Rattle.y2k_base.specs.declared.place.BytePlace.{BytePlace}
use Rattle.y2k_base.specs.declared.place.Span.{Span}
use Rattle.year_labels.specs.declared.rule.View.{View}
use Rattle.year_labels.specs.declared.rule.View.TheVariants as views
use Rattle.year_labels.specs.declared.rule.RuleForm.{RuleForm}
use Rattle.year_labels.specs.Facts.{place_in}
use Rattle.year_labels.specs.Roles.{HoldsPower}
use Rattle.year_pairs.specs.declared.year.Year.{Year}
use Rattle.year_pairs.specs.declared.year.YearKind.{YearKind}
use Rattle.year_pairs.specs.declared.year.YearKind.TheVariants as kinds
use Rattle.year_pairs.specs.Years.{width, place_after}
use Rattle.label_spread.specs.Steps.{IsInSpan}
use Rattle.window_modes.specs.declared.index.YearByte.{YearByte}
use Rattle.window_modes.specs.declared.digits.YearDigit.{YearDigit}
use Rattle.window_modes.specs.Links.{HasByte, Shows, start, AreAligned, AreTwins, AreOperands, IsLink, IsLinked}
use Rattle.window_modes.specs.Modes.{OfYear}
use Rattle.window_modes.specs.Work.{byte_at, IsIndexOf, AreDigitsOf, Joins, Between, AddsDigits, IsPairPower, IsPairDigit, IsPackedDigit}
use Rattle.window_modes.proofs.Joined.{Joins-alike, Joins-both, Joins-none, ByOne}

some_same : {X : Type 0} (x y : X) → Some x ≡ Some y → x ≡ y
some_same {X} x y e = cc

-- what is said of one year by its number
pub one_year : (years : List Year) (i : ℕ) (P : Year → Type 0) (y : Year) → slice_get years i ≡ Some y → OfYear years i P → P y
one_year years i P y is h = subst P (some_same h.0 y (sym h.1 ∙ is)) h.2

pub numbered : (years : List Year) (bytes : List YearByte) → IsIndexOf years bytes → (b : YearByte) → Contains bytes b → b.year < length years
numbered years bytes index b at = let h : OfYear years b.year (λ y. HasByte y b.place) = (index b).0 at in slice_get_within years b.year h.0 h.1

pub digit_numbered : (years : List Year) (view : View) (digits : List YearDigit) → AreDigitsOf years view digits → (d : YearDigit) → Contains digits d → d.year < length years
digit_numbered years view digits are d at = let h : OfYear years d.year (Shows view d.power) = (are d).0 at in slice_get_within years d.year h.0 h.1

-- Digits that are collected.

module _ {X : Type 0} (P : X → YearDigit → Type 0) (xs : List X) where
  abbrev pub Collected : ℕ → List YearDigit → Type 0
  Collected count digits = (d : YearDigit) → Contains digits d ↔ ((x : X) × Contains (take count xs) x × P x d)

  pub collected-none : Collected 0 []
  collected-none d = (λ at. absurd (omega (arith, at.1)), λ h. absurd (omega (arith, h.1.1)))

  pub collected-more : (now next : List YearDigit) (count : ℕ) (x : X) → count < length xs → x ≡ get_or xs count x → AddsDigits (P x) now next → Collected count now → Collected (count + 1) next
  collected-more now next count x low is added a d =
      let more : take (count + 1) xs ≡ take count xs ++ x ∷ [] = take_more xs count x low ∙ ap (λ (y : X). take count xs ++ y ∷ []) (sym is) in (
        λ at. elim ((added d).0 at) [
          | inl before ↦
              let h : (y : X) × Contains (take count xs) y × P y d = (a d).0 before in
              (h.0, subst (λ (ys : List X). Contains ys h.0) (sym more) (Contains-append_left (take count xs) (x ∷ []) h.0 h.1), h.2)
          | inr here ↦ (x, subst (λ (ys : List X). Contains ys x) (sym more) (Contains-push (take count xs) x), here)
        ],
        λ h. elim (Contains-push_cases (take count xs) x h.0 (subst (λ (ys : List X). Contains ys h.0) more h.1)) [
          | inl before ↦ (added d).1 (inl ((a d).1 (h.0, before, h.2)))
          | inr same ↦ (added d).1 (inr (subst (λ (y : X). P y d) (sym same) h.2))
        ],
      )

  pub collected-all : (digits : List YearDigit) (count : ℕ) → length xs ≤ count → Collected count digits → (d : YearDigit) → Contains digits d ↔ ((x : X) × Contains xs x × P x d)
  collected-all digits count all a d =
      let whole : take count xs ≡ xs = take_all count xs all in (
        λ at. let h : (y : X) × Contains (take count xs) y × P y d = (a d).0 at in (h.0, subst (λ (ys : List X). Contains ys h.0) whole h.1, h.2),
        λ h. (a d).1 (h.0, subst (λ (ys : List X). Contains ys h.0) (sym whole) h.1, h.2),
      )

abbrev digit : ℕ → ℕ → YearDigit
digit power year = record { power = power; year = year }

same_index : (span : Span) (place : BytePlace) (i j : ℕ) → place ≡ place_in span i → place ≡ place_in span j → i ≡ j
same_index span place i j e f =
    let offsets : span.offset + i ≡ span.offset + j = ap (λ (p : BytePlace). p.offset) (sym e ∙ f) in
    omega (arith, offsets)

pair_power : (years : List Year) (span : Span) (powers : List (Option ℕ)) (b : YearByte) (p q : ℕ) → IsPairPower years span powers b p → IsPairPower years span powers b q → p ≡ q
pair_power years span powers b p q g h =
    let same : g.1 ≡ h.1 = same_index span b.place g.1 h.1 g.3 h.3 in
    let e : Some (Some p) ≡ Some (Some q) = sym g.4 ∙ ap (slice_get powers) same ∙ h.4 in
    cc

pub pair_added : (years : List Year) (span : Span) (powers : List (Option ℕ)) (b : YearByte) (power : ℕ) (old new : List YearDigit) → new ≡ old ++ digit power b.year ∷ [] → IsPairPower years span powers b power → AddsDigits (IsPairDigit years span powers b) old new
pair_added years span powers b power old new e is d = (
  λ at. elim (Contains-push_cases old (digit power b.year) d (subst (λ (xs : List YearDigit). Contains xs d) e at)) [
    | inl before ↦ inl before
    | inr same ↦ inr (subst (λ (x : YearDigit). IsPairDigit years span powers b x) same (refl, is))
  ],
  λ h. subst (λ (xs : List YearDigit). Contains xs d) (sym e) (elim h [
    | inl before ↦ Contains-append_left old (digit power b.year ∷ []) d before
    | inr own ↦
        let same : power ≡ d.power = pair_power years span powers b power d.power is own.1 in
        subst (λ (x : YearDigit). Contains (old ++ digit power b.year ∷ []) x) (λ i. digit (same i) (sym own.0 i)) (Contains-push old (digit power b.year))
  ]),
)

pub none_added : (P : YearDigit → Type 0) (old : List YearDigit) → ((d : YearDigit) → P d → ⊥) → AddsDigits P old old
none_added P old none d = (λ at. inl at, λ h. elim h [ inl at ↦ at | inr p ↦ absurd (none d p) ])

abbrev IsUnit : List Year → Span → ℕ → ℕ → ℕ → Type 0
IsUnit years span count number unit = OfYear years number (λ y. (y.place ≡ start span) × (y.kind ≡ kinds.Packed count unit))

packed_unit : (count u v : ℕ) → kinds.Packed count u ≡ kinds.Packed count v → u ≡ v
packed_unit count u v e = cc

one_unit : (years : List Year) (span : Span) (count number u v : ℕ) → IsUnit years span count number u → IsUnit years span count number v → u ≡ v
one_unit years span count number u v g h =
    let other : (h.0.place ≡ start span) × (h.0.kind ≡ kinds.Packed count u) = one_year years number (λ (y : Year). (y.place ≡ start span) × (y.kind ≡ kinds.Packed count u)) h.0 h.1 g in
    packed_unit count u v (sym other.1 ∙ h.2.1)

pub packed_added : (years : List Year) (span : Span) (count : ℕ) (b : YearByte) (unit : ℕ) (old mid new : List YearDigit) → mid ≡ old ++ digit unit b.year ∷ [] → new ≡ mid ++ digit (unit + 1) b.year ∷ [] → IsUnit years span count b.year unit → AddsDigits (IsPackedDigit years span count b) old new
packed_added years span count b unit old mid new e f is d = (
  λ at. elim (Contains-push_cases mid (digit (unit + 1) b.year) d (subst (λ (xs : List YearDigit). Contains xs d) f at)) [
    | inl before ↦ elim (Contains-push_cases old (digit unit b.year) d (subst (λ (xs : List YearDigit). Contains xs d) e before)) [
      | inl there ↦ inl there
      | inr same ↦ inr (subst (λ (x : YearDigit). IsPackedDigit years span count b x) same (refl, (unit, is, inl refl)))
    ]
    | inr same ↦ inr (subst (λ (x : YearDigit). IsPackedDigit years span count b x) same (refl, (unit, is, inr refl)))
  ],
  λ h. subst (λ (xs : List YearDigit). Contains xs d) (sym f) (elim h [
    | inl before ↦ Contains-append_left mid (digit (unit + 1) b.year ∷ []) d (subst (λ (xs : List YearDigit). Contains xs d) (sym e) (Contains-append_left old (digit unit b.year ∷ []) d before))
    | inr own ↦
        let same : unit ≡ own.1.0 = one_unit years span count b.year unit own.1.0 is own.1.1 in
        elim own.1.2 [
          | inl units ↦
              let power : unit ≡ d.power = same ∙ sym units in
              Contains-append_left mid (digit (unit + 1) b.year ∷ []) d (subst (λ (xs : List YearDigit). Contains xs d) (sym e)
              (subst (λ (x : YearDigit). Contains (old ++ digit unit b.year ∷ []) x) (λ i. digit (power i) (sym own.0 i)) (Contains-push old (digit unit b.year))))
          | inr tens ↦
              let power : unit + 1 ≡ d.power = ap (λ (n : ℕ). n + 1) same ∙ sym tens in
              subst (λ (x : YearDigit). Contains (mid ++ digit (unit + 1) b.year ∷ []) x) (λ i. digit (power i) (sym own.0 i)) (Contains-push mid (digit (unit + 1) b.year))
        ]
  ]),
)

-- the bytes that are found in a span
abbrev pub AreFound : List YearByte → Span → List YearByte → Type 0
AreFound bytes span found = (b : YearByte) → Contains found b ↔ (Contains bytes b × IsInSpan span b.place)

power_within : (powers : List (Option ℕ)) (i power : ℕ) → HoldsPower powers i power → i < length powers
power_within powers i power h = slice_get_within powers i (Some power) h

pub digits_in_bytes : (years : List Year) (bytes found : List YearByte) (span : Span) (powers : List (Option ℕ)) (digits : List YearDigit) → length powers ≡ span.length → IsIndexOf years bytes → AreFound bytes span found →
    ((d : YearDigit) → Contains digits d ↔ ((b : YearByte) × Contains found b × IsPairDigit years span powers b d)) → AreDigitsOf years (views.Bytes span powers) digits
digits_in_bytes years bytes found span powers digits long index are a d = (
  λ at.
      let h : (b : YearByte) × Contains found b × IsPairDigit years span powers b d = (a d).0 at in
      let pair : IsPairPower years span powers h.0 d.power = h.2.1 in
      let byte : OfYear years h.0.year (λ y. HasByte y h.0.place) = (index h.0).0 ((are h.0).0 h.1).0 in
      let kind : byte.0.kind ≡ kinds.Pair = one_year years h.0.year (λ (y : Year). y.kind ≡ kinds.Pair) byte.0 byte.1 pair.0 in
      (byte.0, ap (slice_get years) h.2.0 ∙ byte.1, (kind, pair.1, pair.4, subst (λ (p : BytePlace). HasByte byte.0 p) pair.3 byte.2)),
  λ h.
      let i : ℕ = h.2.1 in
      let low : i < span.length = omega (arith, power_within powers i d.power h.2.2, long) in
      let b : YearByte = byte_at (place_in span i) d.year in
      let there : Contains bytes b = (index b).1 (h.0, h.1, h.2.3) in
      (a d).1 (b, (are b).1 (there, (i, low, refl)), (refl, ((h.0, h.1, h.2.0), i, low, refl, h.2.2))),
)

pub digits_in_packed : (years : List Year) (bytes found : List YearByte) (span first : Span) (count : ℕ) (digits : List YearDigit) → first ≡ record { area = span.area; offset = span.offset; length = 1 } → IsIndexOf years bytes → AreFound bytes first found →
    ((d : YearDigit) → Contains digits d ↔ ((b : YearByte) × Contains found b × IsPackedDigit years span count b d)) → AreDigitsOf years (views.Packed span count) digits
digits_in_packed years bytes found span first count digits is index are a d = (
  λ at.
      let h : (b : YearByte) × Contains found b × IsPackedDigit years span count b d = (a d).0 at in
      let year : IsUnit years span count h.0.year h.2.1.0 = h.2.1.1 in
      (year.0, ap (slice_get years) h.2.0 ∙ year.1, (year.2.0, h.2.1.0, year.2.1, h.2.1.2)),
  λ h.
      let b : YearByte = byte_at (start span) d.year in
      let zero_offset : span.offset ≡ span.offset + 0 = omega arith in
      let begins : start span ≡ place_after h.0.place 0 =
      let same : start span ≡ place_after (start span) 0 = (λ i. record { area = span.area; offset = zero_offset i }) in
      same ∙ ap (λ (p : BytePlace). place_after p 0) (sym h.2.0) in
      let there : Contains bytes b = (index b).1 (h.0, h.1, (0, positive h.0.kind, begins)) in
      let inside : IsInSpan first (start span) = subst (λ (s : Span). IsInSpan s (start span)) (sym is) (0, omega arith, λ i. record { area = span.area; offset = zero_offset i }) in
      (a d).1 (b, (are b).1 (there, inside), (refl, (h.2.1, (h.0, h.1, (h.2.0, h.2.2)), h.2.3))),
) where
  positive : (kind : YearKind) → 0 < width kind
  positive kinds.Pair = omega arith
  positive (kinds.Packed digits unit) = omega arith

-- Years that are joined.

pub aligned : (years : List Year) (a b : View) (these those : List YearDigit) (old new : List ℕ) → AreDigitsOf years a these → AreDigitsOf years b those →
    Joins (λ i j. (d : YearDigit) × Contains these d × ((e : YearDigit) × Contains those e × ((d.power ≡ e.power) × (i ≡ d.year) × (j ≡ e.year)))) old new → Joins (Between years (AreAligned a b)) old new
aligned years a b these those old new first second joins = Joins-alike _ (Between years (AreAligned a b)) old new
    (λ i j h.
    let one : OfYear years h.0.year (Shows a h.0.power) = (first h.0).0 h.1 in
    let e : YearDigit = h.2.0 in
    let other : OfYear years e.year (Shows b e.power) = (second e).0 h.2.1 in
    (one.0, ap (slice_get years) h.2.2.1 ∙ one.1, (other.0, ap (slice_get years) h.2.2.2 ∙ other.1, (h.0.power, one.2, subst (λ (p : ℕ). Shows b p other.0) (sym h.2.2.0) other.2))))
    (λ i j h.
    let power : ℕ = h.2.2.0 in
    (digit power i, (first (digit power i)).1 (h.0, h.1, h.2.2.1), (digit power j, (second (digit power j)).1 (h.2.0, h.2.1, h.2.2.2), (refl, refl, refl))))
    joins

abbrev pub IsTwin : List YearByte → Span → Span → YearByte → ℕ → ℕ → Type 0
IsTwin bytes a b byte i j = (i ≡ byte.year) × (k : ℕ) × (k < a.length) × (byte.place ≡ place_in a k) × Contains bytes (byte_at (place_in b k) j)

pub twin : (bytes found : List YearByte) (a b there : Span) (byte : YearByte) (k : ℕ) (old new : List ℕ) → there ≡ record { area = b.area; offset = b.offset + k; length = 1 } → k < a.length → byte.place ≡ place_in a k → AreFound bytes there found →
    Joins (λ i j. (c : YearByte) × Contains found c × ((i ≡ byte.year) × (j ≡ c.year))) old new → Joins (IsTwin bytes a b byte) old new
twin bytes found a b there byte k old new is low place are joins = Joins-alike _ (IsTwin bytes a b byte) old new
    (λ i j h.
    let at : Contains bytes h.0 × IsInSpan there h.0.place = (are h.0).0 h.1 in
    let inside : IsInSpan (record { area = b.area; offset = b.offset + k; length = 1 }) h.0.place = subst (λ (s : Span). IsInSpan s h.0.place) is at.1 in
    let offset : b.offset + k + inside.0 ≡ b.offset + k = omega (arith, inside.1) in
    let here : h.0.place ≡ place_in b k = inside.2 ∙ (λ n. record { area = b.area; offset = offset n }) in
    (h.2.0, k, low, place, subst (λ (c : YearByte). Contains bytes c) (λ n. byte_at (here n) (sym h.2.1 n)) at.0))
    (λ i j h.
    let same : h.1 ≡ k = same_index a byte.place h.1 k h.3 place in
    let c : YearByte = byte_at (place_in b h.1) j in
    let offset : b.offset + h.1 ≡ b.offset + k + 0 = omega (arith, same) in
    let inside : IsInSpan there c.place = subst (λ (s : Span). IsInSpan s c.place) (sym is) (0, omega arith, λ n. record { area = b.area; offset = offset n }) in
    (c, (are c).1 (h.4, inside), (h.0, refl)))
    joins

pub no_twin : (bytes : List YearByte) (a b : Span) (byte : YearByte) (old : List ℕ) → (IsInSpan a byte.place → ⊥) → Joins (IsTwin bytes a b byte) old old
no_twin bytes a b byte old none = Joins-none (IsTwin bytes a b byte) old (λ i j h. none (h.1, h.2, h.3))

pub twins : (years : List Year) (bytes found : List YearByte) (a b : Span) (old new : List ℕ) → IsIndexOf years bytes → AreFound bytes a found → Joins (ByOne (IsTwin bytes a b) found) old new → Joins (Between years (AreTwins a b)) old new
twins years bytes found a b old new index are joins = Joins-alike (ByOne (IsTwin bytes a b) found) (Between years (AreTwins a b)) old new
    (λ i j h.
    let one : OfYear years h.0.year (λ y. HasByte y h.0.place) = (index h.0).0 ((are h.0).0 h.1).0 in
    let k : ℕ = h.2.1 in
    let other : OfYear years j (λ y. HasByte y (place_in b k)) = (index (byte_at (place_in b k) j)).0 h.2.4 in
    (one.0, ap (slice_get years) h.2.0 ∙ one.1, (other.0, other.1, (k, h.2.2, subst (λ (p : BytePlace). HasByte one.0 p) h.2.3 one.2, other.2))))
    (λ i j h.
    let k : ℕ = h.2.2.0 in
    let c : YearByte = byte_at (place_in a k) i in
    let there : Contains bytes c = (index c).1 (h.0, h.1, h.2.2.2) in
    (c, (are c).1 (there, (k, h.2.2.1, refl)), (refl, k, h.2.2.1, refl, (index (byte_at (place_in b k) j)).1 (h.2.0, h.2.1, h.2.2.3))))
    joins

pub operands : (years : List Year) (a b c : View) (old mid late new : List ℕ) → Joins (Between years (AreAligned a b)) old mid → Joins (Between years (AreAligned a c)) mid late → Joins (Between years (AreAligned b c)) late new → Joins (Between years (AreOperands a b c)) old new
operands years a b c old mid late new first second third =
    let R : ℕ → ℕ → Type 0 = Between years (AreAligned a b) in
    let S : ℕ → ℕ → Type 0 = Between years (AreAligned a c) in
    let T : ℕ → ℕ → Type 0 = Between years (AreAligned b c) in
    Joins-alike (λ i j. R i j ⊎ (S i j ⊎ T i j)) (Between years (AreOperands a b c)) old new
    (λ i j h. elim h [
      | inl r ↦ (r.0, r.1, (r.2.0, r.2.1, inl r.2.2))
      | inr more ↦ elim more [
        | inl s ↦ (s.0, s.1, (s.2.0, s.2.1, inr (inl s.2.2)))
        | inr t ↦ (t.0, t.1, (t.2.0, t.2.1, inr (inr t.2.2)))
      ]
    ])
    (λ i j h. elim h.2.2 [
      | inl r ↦ inl (h.0, h.1, (h.2.0, h.2.1, r))
      | inr more ↦ elim more [
        | inl s ↦ inr (inl (h.0, h.1, (h.2.0, h.2.1, s)))
        | inr t ↦ inr (inr (h.0, h.1, (h.2.0, h.2.1, t)))
      ]
    ])
    (Joins-both R (λ i j. S i j ⊎ T i j) old mid new first (Joins-both S T mid late new second third))

pub all_links : (years : List Year) (links : List RuleForm) (old new : List ℕ) → Joins (ByOne (λ (form : RuleForm). Between years (IsLink form)) links) old new → Joins (Between years (IsLinked links)) old new
all_links years links old new = Joins-alike (ByOne (λ (form : RuleForm). Between years (IsLink form)) links) (Between years (IsLinked links)) old new
    (λ i j h. (h.2.0, h.2.1, (h.2.2.0, h.2.2.1, (h.0, h.1, h.2.2.2))))
    (λ i j h. (h.2.2.0, h.2.2.1, (h.0, h.1, (h.2.0, h.2.1, h.2.2.2))))
