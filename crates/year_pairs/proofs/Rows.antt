-- Years and lone bytes that are found one fact after the other.
use Rattle.std.proofs.Common.{◌≡◌, ◌↔◌, inl, inr, arith, ℕ, suc, ◌+◌, ◌-◌, ◌<◌, ◌≤◌, List, [], ◌∷◌, ◌++◌, take, length, refl, sym, ap, ◌∙◌, subst, Contains, slice_get, Some, None, Bool, true, false, IsTrue}
use Rattle.std.specs.declared.cmp.Ordering.TheVariants.{Less, Equal}
use Rattle.std.specs.List.Sorted.{IsStrictlySortedBy}
use Rattle.std.specs.Cmp.{tied_itself}
use Rattle.std.proofs.lemmas.Bool.{cases_lt}
use Rattle.std.proofs.lemmas.List.{take_more, take_all}
use Rattle.std.proofs.lemmas.Option.{slice_get_within, slice_get_cases, get_or_from_slice_get}
use Rattle.std.proofs.lemmas.List.Elements.{Contains-append_left, Contains-append_right, Contains-push, Contains-push_cases, Contains-get_or}
use Rattle.y2k_base.specs.declared.place.AreaId.{AreaId}
use Rattle.y2k_base.proofs.Each.{each-more}
use Rattle.year_labels.specs.declared.label.Fact.{Fact}
use Rattle.year_labels.specs.declared.label.Label.{Label}
use Rattle.year_labels.specs.declared.label.Label.TheVariants as labels
use Rattle.year_labels.specs.Facts.{fact_of, IsClean}
use Rattle.year_labels.specs.Order.{fact_cmp, IsAscending}
use Rattle.year_labels.proofs.Total.{fact_total}
use Rattle.year_labels.proofs.Clean.{up_to}
use Rattle.year_labels.proofs.Stretches.{front_less}
use Rattle.year_pairs.specs.declared.year.Year.{Year}
use Rattle.year_pairs.specs.declared.year.YearKind.{YearKind}
use Rattle.year_pairs.specs.declared.year.YearKind.TheVariants as kinds
use Rattle.year_pairs.specs.Years.{width, label_at, byte_of, IsYear, EndsBefore, AreInOrder, AreYearsOf, AreYearsUpTo, IsAdded, AreInAreas}
use Rattle.year_pairs.specs.Lone.{HasNeighbours, AreLoneBytesOf, AreLoneUpTo, IsAddedAlone}

-- an offset and a label that are equal make equal facts
pub same_fact : (area : AreaId) (o p : ℕ) (l m : Label) → o ≡ p → l ≡ m → fact_of (record { area = area; offset = o }) l ≡ fact_of (record { area = area; offset = p }) m
same_fact area o p l m e f = λ i. fact_of (record { area = area; offset = e i }) (f i)

pub positive_width : (kind : YearKind) → 0 < width kind
positive_width kinds.Pair = omega arith
positive_width (kinds.Packed digits unit) = omega arith

-- a year begins with its first byte alone
later_label : (y z : YearKind) (k : ℕ) → label_at y (suc k) ≡ label_at z 0 → ⊥
later_label kinds.Pair kinds.Pair k e = let f : labels.Units ≡ labels.Tens = e in cc
later_label kinds.Pair (kinds.Packed d u) k e = let f : labels.Units ≡ labels.Packed d u 0 = e in cc
later_label (kinds.Packed d u) kinds.Pair k e = let f : labels.Packed d u (suc k) ≡ labels.Tens = e in cc
later_label (kinds.Packed d u) (kinds.Packed e v) k h =
    let f : labels.Packed d u (suc k) ≡ labels.Packed e v 0 = h in
    let g : suc k ≡ 0 = cc in
    omega (arith, g)

pub first_label : (y z : YearKind) → label_at y 0 ≡ label_at z 0 → y ≡ z
first_label kinds.Pair kinds.Pair e = refl
first_label kinds.Pair (kinds.Packed d u) e = absurd (let f : labels.Tens ≡ labels.Packed d u 0 = e in cc)
first_label (kinds.Packed d u) kinds.Pair e = absurd (let f : labels.Packed d u 0 ≡ labels.Tens = e in cc)
first_label (kinds.Packed d u) (kinds.Packed e v) h =
    let f : labels.Packed d u 0 ≡ labels.Packed e v 0 = h in
    let digits : d ≡ e = cc in
    let unit : u ≡ v = cc in
    λ i. kinds.Packed (digits i) (unit i)

first_place : (y z : Year) → byte_of y 0 ≡ byte_of z 0 → y.place ≡ z.place
first_place y z e =
    let area : y.place.area ≡ z.place.area = ap (λ (f : Fact). f.place.area) e in
    let zero_y : y.place.offset + 0 ≡ y.place.offset = omega arith in
    let zero_z : z.place.offset + 0 ≡ z.place.offset = omega arith in
    let offset : y.place.offset ≡ z.place.offset = sym zero_y ∙ ap (λ (f : Fact). f.place.offset) e ∙ zero_z in
    λ i. record { area = area i; offset = offset i }

pub same_year : (y z : Year) → byte_of y 0 ≡ byte_of z 0 → y ≡ z
same_year y z e =
    let place : y.place ≡ z.place = first_place y z e in
    let kind : y.kind ≡ z.kind = first_label y.kind z.kind (ap (λ (f : Fact). f.label) e) in
    λ i. record { place = place i; kind = kind i }

-- a year that begins before another ends before it
apart : (facts : List Fact) (y z : Year) → IsClean facts → IsYear facts y → IsYear facts z → y.place.area ≡ z.place.area → y.place.offset < z.place.offset → y.place.offset + width y.kind ≤ z.place.offset
apart facts y z clean is_y is_z area less = elim (cases_lt z.place.offset (y.place.offset + width y.kind)) [
  | inl within ↦ absurd (
      let k : ℕ = z.place.offset - y.place.offset - 1 in
      let at : y.place.offset + suc k ≡ z.place.offset + 0 = omega arith in
      let low : suc k < width y.kind = omega arith in
      let places : (byte_of y (suc k)).place ≡ (byte_of z 0).place = λ i. record { area = area i; offset = at i } in
      later_label y.kind z.kind k (clean (byte_of y (suc k)) (byte_of z 0) (is_y (suc k) low) (is_z 0 (positive_width z.kind)) places)
      )
  | inr behind ↦ behind
]

ends_before : (facts : List Fact) (y z : Year) → IsClean facts → IsYear facts y → IsYear facts z → fact_cmp (byte_of y 0) (byte_of z 0) ≡ Less → EndsBefore y z
ends_before facts y z clean is_y is_z less = elim (up_to (byte_of y 0) (byte_of z 0) less) [
  | inl area ↦ inl area
  | inr same ↦
      let area : y.place.area ≡ z.place.area = λ i. record { 0 = same.0 i } in
      elim (cases_lt y.place.offset z.place.offset) [
        | inl below ↦ inr (area, apart facts y z clean is_y is_z area below)
        | inr above ↦ absurd (
            let offset : y.place.offset + 0 ≡ z.place.offset + 0 = omega (arith, above, same.1) in
            let places : (byte_of y 0).place ≡ (byte_of z 0).place = λ i. record { area = area i; offset = offset i } in
            let labels : label_at y.kind 0 ≡ label_at z.kind 0 = clean (byte_of y 0) (byte_of z 0) (is_y 0 (positive_width y.kind)) (is_z 0 (positive_width z.kind)) places in
            let facts : byte_of y 0 ≡ byte_of z 0 = λ i. fact_of (places i) (labels i) in
            let e : Less ≡ Equal = sym less ∙ subst (λ (h : Fact). fact_cmp (byte_of y 0) h ≡ Equal) facts (tied_itself fact_total (byte_of y 0)) in
            cc
            )
      ]
]

order_more : (ys : List Year) (z : Year) → AreInOrder ys → ((y : Year) → Contains ys y → EndsBefore y z) → AreInOrder (ys ++ z ∷ [])
order_more [] z row before = (tt, tt)
order_more (y ∷ ys) z row before = (
  each-more (EndsBefore y) ys z row.0 (before y (Contains-append_left (y ∷ []) ys y (Contains-push [] y))),
  order_more ys z row.1 (λ x at. before x (Contains-append_right (y ∷ []) ys x at)),
)

pub more_facts : (facts : List Fact) (index : ℕ) (f : Fact) → slice_get facts index ≡ Some f → take (index + 1) facts ≡ take index facts ++ f ∷ []
more_facts facts index f is =
    take_more facts index f (slice_get_within facts index f is) ∙ ap (λ (x : Fact). take index facts ++ x ∷ []) (get_or_from_slice_get facts index f f is)

pub there : (facts : List Fact) (index : ℕ) (f : Fact) → slice_get facts index ≡ Some f → Contains facts f
there facts index f is = subst (λ (x : Fact). Contains facts x) (get_or_from_slice_get facts index f f is) (Contains-get_or facts index f (slice_get_within facts index f is))

pub less_than : (facts : List Fact) (index : ℕ) (f : Fact) → IsAscending facts → slice_get facts index ≡ Some f → (g : Fact) → Contains (take index facts) g → fact_cmp g f ≡ Less
less_than facts index f sorted is = front_less facts index f sorted (slice_get_within facts index f is) (sym (get_or_from_slice_get facts index f f is))

pub no_more : (facts : List Fact) (index : ℕ) → slice_get facts index ≡ None → take index facts ≡ take (index + 1) facts
no_more facts index none = elim (slice_get_cases facts index).1 [
  | inl here ↦ absurd (let e : None ≡ Some here.0 = sym none ∙ here.2 in cc)
  | inr past ↦ take_all index facts past.0 ∙ sym (take_all (index + 1) facts (omega (arith, past.0)))
]

pub none_yet : (facts : List Fact) → AreYearsUpTo facts 0 []
none_yet facts = record {
  ordered = tt;
  sound = λ y at. absurd (omega (arith, at.1));
  complete = λ y is at. absurd (omega (arith, at.1));
}

pub years_past : (facts : List Fact) (index : ℕ) (years : List Year) → slice_get facts index ≡ None → AreYearsUpTo facts index years → AreYearsUpTo facts (index + 1) years
years_past facts index years none a = record {
  ordered = a.ordered;
  sound = λ y at. ((a.sound y at).0, subst (λ (xs : List Fact). Contains xs (byte_of y 0)) (no_more facts index none) (a.sound y at).1);
  complete = λ y is at. a.complete y is (subst (λ (xs : List Fact). Contains xs (byte_of y 0)) (sym (no_more facts index none)) at);
}

year_added : (facts : List Fact) (index : ℕ) (f : Fact) (old : List Year) (y : Year) → IsClean facts → IsAscending facts → slice_get facts index ≡ Some f → AreYearsUpTo facts index old → IsYear facts y → f ≡ byte_of y 0 → AreYearsUpTo facts (index + 1) (old ++ y ∷ [])
year_added facts index f old y clean sorted is a whole first =
    let more : take (index + 1) facts ≡ take index facts ++ f ∷ [] = more_facts facts index f is in
    record {
      ordered = order_more old y a.ordered (λ z at. ends_before facts z y clean (a.sound z at).0 whole
          (subst (λ (g : Fact). fact_cmp (byte_of z 0) g ≡ Less) first (less_than facts index f sorted is (byte_of z 0) (a.sound z at).1)));
      sound = λ z at. elim (Contains-push_cases old y z at) [
        | inl before ↦ ((a.sound z before).0, subst (λ (xs : List Fact). Contains xs (byte_of z 0)) (sym more) (Contains-append_left (take index facts) (f ∷ []) (byte_of z 0) (a.sound z before).1))
        | inr same ↦ subst (λ (x : Year). IsYear facts x × Contains (take (index + 1) facts) (byte_of x 0)) same (
          whole,
          subst (λ (g : Fact). Contains (take (index + 1) facts) g) first (subst (λ (xs : List Fact). Contains xs f) (sym more) (Contains-push (take index facts) f)),
        )
      ];
      complete = λ z is_z at. elim (Contains-push_cases (take index facts) f (byte_of z 0) (subst (λ (xs : List Fact). Contains xs (byte_of z 0)) more at)) [
        | inl before ↦ Contains-append_left old (y ∷ []) z (a.complete z is_z before)
        | inr same ↦ subst (λ (x : Year). Contains (old ++ y ∷ []) x) (same_year y z (sym first ∙ same)) (Contains-push old y)
      ];
    }

none_added : (facts : List Fact) (index : ℕ) (f : Fact) (old : List Year) → slice_get facts index ≡ Some f → AreYearsUpTo facts index old → ((y : Year) → IsYear facts y → f ≡ byte_of y 0 → ⊥) → AreYearsUpTo facts (index + 1) old
none_added facts index f old is a none =
    let more : take (index + 1) facts ≡ take index facts ++ f ∷ [] = more_facts facts index f is in
    record {
      ordered = a.ordered;
      sound = λ z at. ((a.sound z at).0, subst (λ (xs : List Fact). Contains xs (byte_of z 0)) (sym more) (Contains-append_left (take index facts) (f ∷ []) (byte_of z 0) (a.sound z at).1));
      complete = λ z is_z at. elim (Contains-push_cases (take index facts) f (byte_of z 0) (subst (λ (xs : List Fact). Contains xs (byte_of z 0)) more at)) [
        | inl before ↦ a.complete z is_z before
        | inr same ↦ absurd (none z is_z same)
      ];
    }

pub years_more : (facts : List Fact) (index : ℕ) (f : Fact) (old new : List Year) → IsClean facts → IsAscending facts → slice_get facts index ≡ Some f → AreYearsUpTo facts index old → IsAdded facts f old new → AreYearsUpTo facts (index + 1) new
years_more facts index f old new clean sorted is a (inl h) =
    subst (λ (ys : List Year). AreYearsUpTo facts (index + 1) ys) (sym h.3) (year_added facts index f old h.0 clean sorted is a h.1 h.2)
years_more facts index f old new clean sorted is a (inr h) =
    subst (λ (ys : List Year). AreYearsUpTo facts (index + 1) ys) (sym h.1) (none_added facts index f old is a h.0)

pub years_all : (facts : List Fact) (count : ℕ) (years : List Year) → length facts ≤ count → AreYearsUpTo facts count years → AreYearsOf facts years
years_all facts count years all a = record {
  ordered = a.ordered;
  same = λ y. (
    λ at. (a.sound y at).0,
    λ is. a.complete y is (subst (λ (xs : List Fact). Contains xs (byte_of y 0)) (sym (take_all count facts all)) (is 0 (positive_width y.kind))),
  );
}

-- a byte lacks its label
pub not_whole : (facts : List Fact) (y : Year) (k : ℕ) (b : Bool) → (IsTrue b ↔ Contains facts (byte_of y k)) → b ≡ false → k < width y.kind → IsTrue false ↔ IsYear facts y
not_whole facts y k b bears lacks low = (
  λ e. absurd (let f : false ≡ true = e in cc),
  λ is. absurd (let f : false ≡ true = sym lacks ∙ bears.1 (is k low) in cc),
)

-- no year begins where none of the kind of its label does
pub none_begins : (facts : List Fact) (f : Fact) (y z : Year) → f.label ≡ label_at y.kind 0 → y.place ≡ f.place → (IsYear facts y → ⊥) → IsYear facts z → f ≡ byte_of z 0 → ⊥
none_begins facts f y z label place none is_z first =
    let kind : y.kind ≡ z.kind = first_label y.kind z.kind (sym label ∙ ap (λ (g : Fact). g.label) first) in
    let zero_z : z.place.offset + 0 ≡ z.place.offset = omega arith in
    let area : f.place.area ≡ z.place.area = ap (λ (g : Fact). g.place.area) first in
    let offset : f.place.offset ≡ z.place.offset = ap (λ (g : Fact). g.place.offset) first ∙ zero_z in
    let places : f.place ≡ z.place = λ i. record { area = area i; offset = offset i } in
    let begins : y.place ≡ z.place = place ∙ places in
    let same : y ≡ z = λ i. record { place = begins i; kind = kind i } in
    none (subst (λ (x : Year). IsYear facts x) (sym same) is_z)

-- Lone bytes.

sorted_more : (xs : List Fact) (x : Fact) → IsAscending xs → ((y : Fact) → Contains xs y → fact_cmp y x ≡ Less) → IsAscending (xs ++ x ∷ [])
unfolding IsStrictlySortedBy
sorted_more [] x sorted below = (tt, tt)
sorted_more (y ∷ ys) x sorted below = (
  each-more (λ (z : Fact). fact_cmp y z ≡ Less) ys x sorted.0 (below y (Contains-append_left (y ∷ []) ys y (Contains-push [] y))),
  sorted_more ys x sorted.1 (λ z at. below z (Contains-append_right (y ∷ []) ys z at)),
)

sorted_none : IsAscending []
unfolding IsStrictlySortedBy
sorted_none = tt

pub none_alone : (facts : List Fact) → AreLoneUpTo facts 0 []
none_alone facts = record {
  ordered = sorted_none;
  sound = λ f at. absurd (omega (arith, at.1));
  complete = λ f at. absurd (omega (arith, at.1));
}

pub lone_past : (facts : List Fact) (index : ℕ) (lone : List Fact) → slice_get facts index ≡ None → AreLoneUpTo facts index lone → AreLoneUpTo facts (index + 1) lone
lone_past facts index lone none a = record {
  ordered = a.ordered;
  sound = λ f at. (subst (λ (xs : List Fact). Contains xs f) (no_more facts index none) (a.sound f at).0, (a.sound f at).1);
  complete = λ f at. a.complete f (subst (λ (xs : List Fact). Contains xs f) (sym (no_more facts index none)) at);
}

pub lone_more : (facts : List Fact) (index : ℕ) (f : Fact) (old new : List Fact) → IsAscending facts → slice_get facts index ≡ Some f → AreLoneUpTo facts index old → IsAddedAlone facts f old new → AreLoneUpTo facts (index + 1) new
lone_more facts index f old new sorted is a (inl h) =
    let more : take (index + 1) facts ≡ take index facts ++ f ∷ [] = more_facts facts index f is in
    subst (λ (ys : List Fact). AreLoneUpTo facts (index + 1) ys) (sym h.1) (record {
      ordered = sorted_more old f a.ordered (λ g at. less_than facts index f sorted is g (a.sound g at).0);
      sound = λ g at. elim (Contains-push_cases old f g at) [
        | inl before ↦ (subst (λ (xs : List Fact). Contains xs g) (sym more) (Contains-append_left (take index facts) (f ∷ []) g (a.sound g before).0), (a.sound g before).1)
        | inr same ↦ subst (λ (x : Fact). Contains (take (index + 1) facts) x × (HasNeighbours facts x → ⊥)) same (subst (λ (xs : List Fact). Contains xs f) (sym more) (Contains-push (take index facts) f), h.0)
      ];
      complete = λ g at. elim (Contains-push_cases (take index facts) f g (subst (λ (xs : List Fact). Contains xs g) more at)) [
        | inl before ↦ elim (a.complete g before) [
          | inl beside ↦ inl beside
          | inr there ↦ inr (Contains-append_left old (f ∷ []) g there)
        ]
        | inr same ↦ inr (subst (λ (x : Fact). Contains (old ++ f ∷ []) x) same (Contains-push old f))
      ];
    })
lone_more facts index f old new sorted is a (inr h) =
    let more : take (index + 1) facts ≡ take index facts ++ f ∷ [] = more_facts facts index f is in
    subst (λ (ys : List Fact). AreLoneUpTo facts (index + 1) ys) (sym h.1) (record {
      ordered = a.ordered;
      sound = λ g at. (subst (λ (xs : List Fact). Contains xs g) (sym more) (Contains-append_left (take index facts) (f ∷ []) g (a.sound g at).0), (a.sound g at).1);
      complete = λ g at. elim (Contains-push_cases (take index facts) f g (subst (λ (xs : List Fact). Contains xs g) more at)) [
        | inl before ↦ a.complete g before
        | inr same ↦ inl (subst (λ (x : Fact). HasNeighbours facts x) same h.0)
      ];
    })

pub lone_all : (facts : List Fact) (count : ℕ) (lone : List Fact) → length facts ≤ count → AreLoneUpTo facts count lone → AreLoneBytesOf facts lone
lone_all facts count lone all a = record {
  ordered = a.ordered;
  same = λ f. (
    λ at. (subst (λ (xs : List Fact). Contains xs f) (take_all count facts all) (a.sound f at).0, (a.sound f at).1),
    λ h. elim (a.complete f (subst (λ (xs : List Fact). Contains xs f) (sym (take_all count facts all)) h.0)) [
      | inl beside ↦ absurd (h.1 beside)
      | inr at ↦ at
    ],
  );
}

pub none_lone : (facts : List Fact) (count : ℕ) (lone : List Fact) → length facts ≤ count → AreLoneUpTo facts count lone → lone ≡ [] → (f : Fact) → Contains facts f → HasNeighbours facts f
none_lone facts count lone all a none f there = elim (a.complete f (subst (λ (xs : List Fact). Contains xs f) (sym (take_all count facts all)) there)) [
  | inl beside ↦ beside
  | inr at ↦ absurd (let h : Contains [] f = subst (λ (xs : List Fact). Contains xs f) none at in omega (arith, h.1))
]

-- Areas.

pub in_areas_none : AreInAreas []
in_areas_none f at = absurd (omega (arith, at.1))

pub in_areas_more : (old new : List Fact) (f : Fact) → new ≡ old ++ f ∷ [] → f.place.offset ≤ 65535 → AreInAreas old → AreInAreas new
in_areas_more old new f e small a g at = elim (Contains-push_cases old f g (subst (λ (xs : List Fact). Contains xs g) e at)) [
  | inl before ↦ a g before
  | inr is ↦ subst (λ (x : Fact). x.place.offset ≤ 65535) is small
]
