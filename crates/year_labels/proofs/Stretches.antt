-- Facts that are read in order make stretches.
use Rattle.std.proofs.Common.{◌≡◌, ◌⊎◌, inl, inr, arith, ℕ, ◌+◌, ◌-◌, ◌<◌, ◌≤◌, List, [], ◌∷◌, ◌++◌, take, length, get_or, refl, sym, ap, ◌∙◌, subst, Contains}
use Rattle.std.specs.declared.cmp.Ordering.{Ordering}
use Rattle.std.specs.declared.cmp.Ordering.TheVariants.{Less}
use Rattle.std.specs.Ordering.{ordering_then}
use Rattle.std.specs.List.Sorted.{IsStrictlySortedBy}
use Rattle.std.specs.Cmp.{tied_itself}
use Rattle.std.proofs.lemmas.Bool.{cases_lt}
use Rattle.std.proofs.lemmas.List.{get_or-take, length-take-le, get_or_default}
use Rattle.std.proofs.lemmas.List.Elements.{Contains-append_left, Contains-append_right, Contains-push, Contains-push_cases}
use Rattle.y2k_base.specs.declared.place.BytePlace.{BytePlace}
use Rattle.y2k_base.proofs.Each.{each-more}
use Rattle.year_labels.specs.declared.label.Fact.{Fact}
use Rattle.year_labels.specs.declared.label.Label.{Label}
use Rattle.year_labels.specs.declared.stretch.Stretch.{Stretch}
use Rattle.year_labels.specs.Facts.{fact_of}
use Rattle.year_labels.specs.Order.{fact_cmp, label_cmp, IsAscending}
use Rattle.year_labels.specs.Stretches.{IsByteOf, Says, OneSays, IsFull, IsFollowedBy, AreInRow, AreStretchesOf, EndsBefore, AreRead, IsContinuedBy, byte_of}
use Rattle.year_labels.proofs.Clean.{IsUpTo, up_to}
use Rattle.year_labels.proofs.Total.{less_before, place_total}

row_more : (ss : List Stretch) (s t : Stretch) → AreInRow (ss ++ s ∷ []) → IsFollowedBy s t → AreInRow ((ss ++ s ∷ []) ++ t ∷ [])
row_more [] s t row follows = (follows, tt)
row_more (r ∷ []) s t row follows = (row.0, (follows, tt))
row_more (q ∷ r ∷ more) s t row follows = (row.0, row_more (r ∷ more) s t row.1 follows)

-- the last stretch of a row may have any length
row_like : (ss : List Stretch) (s t : Stretch) → ((r : Stretch) → IsFollowedBy r s → IsFollowedBy r t) → AreInRow (ss ++ s ∷ []) → AreInRow (ss ++ t ∷ [])
row_like [] s t like row = tt
row_like (r ∷ []) s t like row = (like r row.0, tt)
row_like (q ∷ r ∷ more) s t like row = (row.0, row_like (r ∷ more) s t like row.1)

sorted_more : {K : Type 0} (c : K → K → Ordering) (xs : List K) (x : K) → IsStrictlySortedBy c xs → ((y : K) → Contains xs y → c y x ≡ Less) → IsStrictlySortedBy c (xs ++ x ∷ [])
unfolding IsStrictlySortedBy
sorted_more {K} c [] x sorted below = (tt, tt)
sorted_more {K} c (y ∷ ys) x sorted below = (
  each-more (λ (z : K). c y z ≡ Less) ys x sorted.0 (below y (Contains-append_left (y ∷ []) ys y (Contains-push [] y))),
  sorted_more c ys x sorted.1 (λ z at. below z (Contains-append_right (y ∷ []) ys z at)),
)

sorted_single : {K : Type 0} (c : K → K → Ordering) (x : K) → IsStrictlySortedBy c (x ∷ [])
unfolding IsStrictlySortedBy
sorted_single {K} c x = (tt, tt)

full_more : (ss : List Stretch) (t : Stretch) → ((s : Stretch) → Contains ss s → IsFull s) → IsFull t → (s : Stretch) → Contains (ss ++ t ∷ []) s → IsFull s
full_more ss t full last s at = elim (Contains-push_cases ss t s at) [
  | inl before ↦ full s before
  | inr is ↦ subst IsFull is last
]

one_more : (ss : List Stretch) (t : Stretch) (f : Fact) → OneSays (ss ++ t ∷ []) f → OneSays ss f ⊎ Says t f
one_more ss t f h = elim (Contains-push_cases ss t h.0 h.1) [
  | inl before ↦ inl (h.0, before, h.2)
  | inr is ↦ inr (subst (λ (s : Stretch). Says s f) (sym is) h.2)
]

one_of_more : (ss : List Stretch) (t : Stretch) (f : Fact) → OneSays ss f ⊎ Says t f → OneSays (ss ++ t ∷ []) f
one_of_more ss t f (inl h) = (h.0, Contains-append_left ss (t ∷ []) h.0 h.1, h.2)
one_of_more ss t f (inr h) = (t, Contains-push ss t, h)

-- the first byte
pub stretches_first : (facts : List Fact) (byte : Stretch) → AreRead facts [] byte → AreStretchesOf facts ([] ++ byte ∷ [])
stretches_first facts byte a = record {
  full = full_more [] byte a.full a.last;
  row = tt;
  same = λ f. (λ h. one_of_more [] byte f ((a.same f).0 h), λ h. (a.same f).1 (one_more [] byte f h));
}

followed : (s byte : Stretch) → EndsBefore s byte → (IsContinuedBy s byte → ⊥) → IsFollowedBy s byte
followed s byte (inl less) apart = inl less
followed s byte (inr h) apart = elim (cases_lt (s.first + s.length) byte.first) [
  | inl before ↦ inr (h.0, inl before)
  | inr from ↦
      let touch : s.first + s.length ≡ byte.first = omega (arith, from, h.1) in
      inr (h.0, inr (touch, λ same. apart ((h.0, touch), same)))
]

-- a byte that isn't as those before it
pub stretches_apart : (facts : List Fact) (ss : List Stretch) (last byte : Stretch) → (IsContinuedBy last byte → ⊥) → AreRead facts (ss ++ last ∷ []) byte → AreStretchesOf facts ((ss ++ last ∷ []) ++ byte ∷ [])
stretches_apart facts ss last byte apart a = record {
  full = full_more (ss ++ last ∷ []) byte a.full a.last;
  row = row_more ss last byte a.row (followed last byte (a.after last (Contains-push ss last)) apart);
  same = λ f. (λ h. one_of_more (ss ++ last ∷ []) byte f ((a.same f).0 h), λ h. (a.same f).1 (one_more (ss ++ last ∷ []) byte f h));
}

abbrev longer : Stretch → Stretch
longer s = record { area = s.area; first = s.first; length = s.length + 1; labels = s.labels }

says_longer : (s byte : Stretch) (f : Fact) → byte.length ≡ 1 → IsContinuedBy s byte → Says s f ⊎ Says byte f → Says (longer s) f
says_longer s byte f single is (inl h) = ((h.0.0, h.0.1, omega (arith, h.0.2)), h.1)
says_longer s byte f single is (inr h) = (
  (h.0.0 ∙ sym is.0.0, omega (arith, h.0.1, is.0.1), omega (arith, h.0.2, is.0.1, single)),
  subst (λ (ls : List Label). Contains ls f.label) (sym is.1) h.1,
)

longer_says : (s byte : Stretch) (f : Fact) → byte.length ≡ 1 → IsContinuedBy s byte → Says (longer s) f → Says s f ⊎ Says byte f
longer_says s byte f single is h = elim (cases_lt f.place.offset (s.first + s.length)) [
  | inl within ↦ inl ((h.0.0, h.0.1, within), h.1)
  | inr behind ↦ inr (
    (h.0.0 ∙ is.0.0, omega (arith, behind, is.0.1), omega (arith, h.0.2, is.0.1, single)),
    subst (λ (ls : List Label). Contains ls f.label) is.1 h.1,
  )
]

-- a byte that is as those before it
pub stretches_joined : (facts : List Fact) (ss : List Stretch) (last byte : Stretch) → IsContinuedBy last byte → AreRead facts (ss ++ last ∷ []) byte → AreStretchesOf facts (ss ++ longer last ∷ [])
stretches_joined facts ss last byte is a =
    let full : IsFull last = a.full last (Contains-push ss last) in
    record {
      full = full_more ss (longer last) (λ s at. a.full s (Contains-append_left ss (last ∷ []) s at)) (record { long = omega arith; labelled = full.labelled; ordered = full.ordered });
      row = row_like ss last (longer last) (λ r h. h) a.row;
      same = λ f. (
        λ h. elim ((a.same f).0 h) [
          | inl one ↦ elim (one_more ss last f one) [
            | inl before ↦ one_of_more ss (longer last) f (inl before)
            | inr says ↦ one_of_more ss (longer last) f (inr (says_longer last byte f a.single is (inl says)))
          ]
          | inr says ↦ one_of_more ss (longer last) f (inr (says_longer last byte f a.single is (inr says)))
        ],
        λ h. elim (one_more ss (longer last) f h) [
          | inl before ↦ (a.same f).1 (inl (one_of_more ss last f (inl before)))
          | inr says ↦ elim (longer_says last byte f a.single is says) [
            | inl of_last ↦ (a.same f).1 (inl (one_of_more ss last f (inr of_last)))
            | inr of_byte ↦ (a.same f).1 (inr of_byte)
          ]
        ],
      );
    }

abbrev pub place_of : Stretch → BytePlace
place_of byte = record { area = byte.area; offset = byte.first }

at_byte : (byte : Stretch) (f : Fact) → byte.length ≡ 1 → IsByteOf byte f.place → f.place ≡ place_of byte
at_byte byte f single h =
    let area : f.place.area ≡ byte.area = h.0 in
    let offset : f.place.offset ≡ byte.first = omega (arith, h.1, h.2, single) in
    λ i. record { area = area i; offset = offset i }

label_less : (p : BytePlace) (a b : Label) → fact_cmp (fact_of p a) (fact_of p b) ≡ Less → label_cmp a b ≡ Less
label_less p a b e = subst (λ (r : Ordering). ordering_then r (label_cmp a b) ≡ Less) (tied_itself place_total p) e

abbrev with_label : Stretch → Label → Stretch
with_label byte label = record { area = byte.area; first = byte.first; length = byte.length; labels = byte.labels ++ label ∷ [] }

-- one more label of the byte that is being read
pub read_label : (facts : List Fact) (ss : List Stretch) (byte : Stretch) (fact : Fact) → byte.area ≡ fact.place.area → byte.first ≡ fact.place.offset
    → ((f : Fact) → Contains facts f → fact_cmp f fact ≡ Less) → AreRead facts ss byte → AreRead (facts ++ fact ∷ []) ss (with_label byte fact.label)
read_label facts ss byte fact area offset below a =
    let place : place_of byte ≡ fact.place = λ i. record { area = area i; offset = offset i } in
    let here : IsByteOf byte fact.place = (sym area, omega (arith, offset), omega (arith, offset, a.single)) in
    record {
      full = a.full;
      row = a.row;
      last = record {
        long = a.last.long;
        labelled = (fact.label, Contains-push byte.labels fact.label);
        ordered = sorted_more label_cmp byte.labels fact.label a.last.ordered
            (λ label at. label_less fact.place label fact.label (below (fact_of fact.place label) ((a.same (fact_of fact.place label)).1 (inr (here, at)))));
      };
      single = a.single;
      after = a.after;
      same = λ f. (
        λ h. elim (Contains-push_cases facts fact f h) [
          | inl old ↦ elim ((a.same f).0 old) [
            | inl one ↦ inl one
            | inr says ↦ inr (says.0, Contains-append_left byte.labels (fact.label ∷ []) f.label says.1)
          ]
          | inr is ↦ inr (subst (λ (g : Fact). Says (with_label byte fact.label) g) is (here, Contains-push byte.labels fact.label))
        ],
        λ h. elim h [
          | inl one ↦ Contains-append_left facts (fact ∷ []) f ((a.same f).1 (inl one))
          | inr says ↦ elim (Contains-push_cases byte.labels fact.label f.label says.1) [
            | inl old ↦ Contains-append_left facts (fact ∷ []) f ((a.same f).1 (inr (says.0, old)))
            | inr is ↦
                let at : f.place ≡ fact.place = at_byte byte f a.single says.0 ∙ place in
                let same : fact ≡ f = λ i. fact_of (sym at i) (is i) in
                subst (λ (g : Fact). Contains (facts ++ fact ∷ []) g) same (Contains-push facts fact)
          ]
        ],
      );
    }

-- a fact of a stretch that ends before the byte is not one of a place behind it
not_behind : (s byte : Stretch) (f fact : Fact) → EndsBefore s byte → IsByteOf s f.place → IsUpTo (place_of byte) fact.place → f.place ≡ fact.place → ⊥
not_behind s byte f fact (inl less) at (inl up) is =
    let one : f.place.area.0 ≡ s.area.0 = ap (λ a. a.0) at.0 in
    let two : f.place.area.0 ≡ fact.place.area.0 = ap (λ (p : BytePlace). p.area.0) is in
    absurd (omega (arith, less, up, one, two))
not_behind s byte f fact (inl less) at (inr up) is =
    let one : f.place.area.0 ≡ s.area.0 = ap (λ a. a.0) at.0 in
    let two : f.place.area.0 ≡ fact.place.area.0 = ap (λ (p : BytePlace). p.area.0) is in
    absurd (omega (arith, less, up.0, one, two))
not_behind s byte f fact (inr h) at (inl up) is =
    let one : f.place.area.0 ≡ s.area.0 = ap (λ a. a.0) at.0 in
    let two : f.place.area.0 ≡ fact.place.area.0 = ap (λ (p : BytePlace). p.area.0) is in
    let three : s.area.0 ≡ byte.area.0 = ap (λ a. a.0) h.0 in
    absurd (omega (arith, up, one, two, three))
not_behind s byte f fact (inr h) at (inr up) is =
    let two : f.place.offset ≡ fact.place.offset = ap (λ (p : BytePlace). p.offset) is in
    absurd (omega (arith, h.1, at.2, up.1, two))

-- the places of the facts that were read end before the next, which is of another byte
other_place : (facts : List Fact) (ss : List Stretch) (byte : Stretch) (fact f : Fact) → ((byte.area ≡ fact.place.area) × (byte.first ≡ fact.place.offset) → ⊥)
    → ((g : Fact) → Contains facts g → fact_cmp g fact ≡ Less) → AreRead facts ss byte → Contains facts f → f.place ≡ fact.place → ⊥
other_place facts ss byte fact f apart below a at is =
    let label : Label = a.last.labelled.0 in
    let known : Fact = fact_of (place_of byte) label in
    let there : Contains facts known = (a.same known).1 (inr ((refl, omega arith, omega (arith, a.single)), a.last.labelled.1)) in
    elim ((a.same f).0 at) [
      | inl one ↦ not_behind one.0 byte f fact (a.after one.0 one.1) one.2.0 (up_to known fact (below known there)) is
      | inr says ↦
          let place : place_of byte ≡ fact.place = sym (at_byte byte f a.single says.0) ∙ is in
          apart (ap (λ (p : BytePlace). p.area) place, ap (λ (p : BytePlace). p.offset) place)
    ]

ends_before : (s : Stretch) (p : BytePlace) (q : BytePlace) → p.area ≡ s.area → p.offset + 1 ≡ s.first + s.length → IsUpTo p q → (p ≡ q → ⊥) → (s.area.0 < q.area.0) ⊎ ((s.area ≡ q.area) × (s.first + s.length ≤ q.offset))
ends_before s p q area offset (inl less) apart = let e : p.area.0 ≡ s.area.0 = ap (λ a. a.0) area in inl (omega (arith, less, e))
ends_before s p q area offset (inr up) apart =
    let e : p.area.0 ≡ s.area.0 = ap (λ a. a.0) area in
    let both : s.area.0 ≡ q.area.0 = omega (arith, e, up.0) in
    let same : s.area ≡ q.area = λ i. record { 0 = both i } in
    elim (cases_lt p.offset q.offset) [
      | inl before ↦ inr (same, omega (arith, offset, before))
      | inr from ↦
          let offsets : p.offset ≡ q.offset = omega (arith, from, up.1) in
          let areas : p.area ≡ q.area = area ∙ same in
          absurd (apart (λ i. record { area = areas i; offset = offsets i }))
    ]

-- the first label of another byte
pub read_other : (facts : List Fact) (old new : List Stretch) (byte : Stretch) (fact : Fact) → ((byte.area ≡ fact.place.area) × (byte.first ≡ fact.place.offset) → ⊥)
    → ((f : Fact) → Contains facts f → fact_cmp f fact ≡ Less) → AreRead facts old byte → AreStretchesOf facts new → AreRead (facts ++ fact ∷ []) new (byte_of fact)
read_other facts old new byte fact apart below a b = record {
  full = b.full;
  row = b.row;
  last = record { long = omega arith; labelled = (fact.label, Contains-push [] fact.label); ordered = sorted_single label_cmp fact.label };
  single = refl;
  after = λ s at.
      let full : IsFull s = b.full s at in
      let place : BytePlace = record { area = s.area; offset = s.first + s.length - 1 } in
      let known : Fact = fact_of place full.labelled.0 in
      let there : Contains facts known = (b.same known).1 (s, at, ((refl, omega (arith, full.long), omega (arith, full.long)), full.labelled.1)) in
      ends_before s place fact.place refl (omega (arith, full.long)) (up_to known fact (below known there)) (λ is. other_place facts old byte fact known apart below a there is);
  same = λ f. (
    λ h. elim (Contains-push_cases facts fact f h) [
      | inl before ↦ inl ((b.same f).0 before)
      | inr is ↦ inr (subst (λ (g : Fact). Says (byte_of fact) g) is ((refl, omega arith, omega arith), Contains-push [] fact.label))
    ],
    λ h. elim h [
      | inl one ↦ Contains-append_left facts (fact ∷ []) f ((b.same f).1 one)
      | inr says ↦
          let at : f.place ≡ fact.place = at_byte (byte_of fact) f refl says.0 in
          elim (Contains-push_cases [] fact.label f.label says.1) [
            | inl none ↦ absurd (omega (arith, none.1))
            | inr is ↦ let same : fact ≡ f = λ i. fact_of (sym at i) (is i) in subst (λ (g : Fact). Contains (facts ++ fact ∷ []) g) same (Contains-push facts fact)
          ]
    ],
  );
}

-- the first fact
pub read_first : (fact : Fact) → AreRead (fact ∷ []) [] (byte_of fact)
read_first fact = record {
  full = λ s at. absurd (omega (arith, at.1));
  row = tt;
  last = record { long = omega arith; labelled = (fact.label, Contains-push [] fact.label); ordered = sorted_single label_cmp fact.label };
  single = refl;
  after = λ s at. absurd (omega (arith, at.1));
  same = λ f. (
    λ h. elim (Contains-push_cases [] fact f h) [
      | inl none ↦ absurd (omega (arith, none.1))
      | inr is ↦ inr (subst (λ (g : Fact). Says (byte_of fact) g) is ((refl, omega arith, omega arith), Contains-push [] fact.label))
    ],
    λ h. elim h [
      | inl one ↦ absurd (omega (arith, one.1.1))
      | inr says ↦
          let at : f.place ≡ fact.place = at_byte (byte_of fact) f refl says.0 in
          elim (Contains-push_cases [] fact.label f.label says.1) [
            | inl none ↦ absurd (omega (arith, none.1))
            | inr is ↦ let same : fact ≡ f = λ i. fact_of (sym at i) (is i) in subst (λ (g : Fact). Contains (fact ∷ []) g) same (Contains-push [] fact)
          ]
    ],
  );
}

-- what stands before in facts that ascend is less
pub front_less : (facts : List Fact) (i : ℕ) (fact : Fact) → IsAscending facts → i < length facts → fact ≡ get_or facts i fact → (f : Fact) → Contains (take i facts) f → fact_cmp f fact ≡ Less
front_less facts i fact sorted low is f at =
    let short : length (take i facts) ≡ i = length-take-le i facts (omega arith) in
    let below : at.0 < i = omega (arith, at.1, short) in
    let first : get_or facts at.0 f ≡ f = sym (get_or-take i facts at.0 f below) ∙ at.2 in
    subst (λ (g : Fact). fact_cmp g fact ≡ Less) first
    (subst (λ (g : Fact). fact_cmp (get_or facts at.0 f) g ≡ Less) (get_or_default facts i f fact low ∙ sym is) (less_before fact_cmp facts at.0 i f sorted below low))

pub no_stretches : (facts : List Fact) → facts ≡ [] → AreStretchesOf facts []
no_stretches facts none = subst (λ (xs : List Fact). AreStretchesOf xs []) (sym none) (record {
  full = λ s at. absurd (omega (arith, at.1));
  row = tt;
  same = λ f. (λ h. absurd (omega (arith, h.1)), λ h. absurd (omega (arith, h.1.1)));
})
