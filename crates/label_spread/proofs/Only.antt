-- The stretches of facts are the only ones.
use Rattle.std.proofs.Common.{◌≡◌, ◌⊎◌, ◌↔◌, inl, inr, arith, ◌+◌, ◌<◌, ◌≤◌, List, [], ◌∷◌, refl, sym, ap, ◌∙◌, subst, Contains}
use Rattle.std.specs.declared.cmp.Ordering.{Ordering}
use Rattle.std.specs.declared.cmp.Ordering.TheVariants.{Less, Equal}
use Rattle.std.specs.List.Sorted.{IsStrictlySortedBy}
use Rattle.std.specs.Cmp.{tied_itself}
use Rattle.std.proofs.lemmas.Bool.{cases_lt}
use Rattle.std.proofs.lemmas.Map.Keys.{sorted_tail}
use Rattle.std.proofs.lemmas.Map.Views.{All-after_first}
use Rattle.std.proofs.lemmas.List.Elements.{Contains-append_left, Contains-append_right, Contains-append_cases, Contains-push, Contains-push_cases}
use Rattle.y2k_base.specs.declared.place.AreaId.{AreaId}
use Rattle.y2k_base.specs.declared.place.BytePlace.{BytePlace}
use Rattle.year_labels.specs.declared.label.Fact.{Fact}
use Rattle.year_labels.specs.declared.label.Label.{Label}
use Rattle.year_labels.specs.declared.stretch.Stretch.{Stretch}
use Rattle.year_labels.specs.Facts.{fact_of}
use Rattle.year_labels.specs.Order.{label_cmp}
use Rattle.year_labels.specs.Stretches.{IsByteOf, Says, OneSays, IsFull, IsFollowedBy, AreInRow, EndsBefore}
use Rattle.year_labels.proofs.Total.{fact_total}
use Rattle.label_spread.specs.Only.{HaveOneList}

head_or_rest : {X : Type 0} (y : X) (ys : List X) (x : X) → Contains (y ∷ ys) x → (y ≡ x) ⊎ Contains ys x
head_or_rest {X} y ys x at = elim (Contains-append_cases (y ∷ []) ys x at) [
  | inl first ↦ elim (Contains-push_cases [] y x first) [ inl none ↦ absurd (omega (arith, none.1)) | inr is ↦ inl is ]
  | inr rest ↦ inr rest
]

at_head : {X : Type 0} (y : X) (ys : List X) → Contains (y ∷ ys) y
at_head {X} y ys = Contains-append_left (y ∷ []) ys y (Contains-push [] y)

at_rest : {X : Type 0} (y : X) (ys : List X) (x : X) → Contains ys x → Contains (y ∷ ys) x
at_rest {X} y ys x at = Contains-append_right (y ∷ []) ys x at

-- two lists in order with the same elements are one
module _ {K : Type 0} (cmp : K → K → Ordering) (apart : (x y : K) → cmp x y ≡ Less → cmp y x ≡ Less → ⊥) where
  less_than : (x : K) (xs : List K) (y : K) → IsStrictlySortedBy cmp (x ∷ xs) → Contains xs y → cmp x y ≡ Less
  less_than x xs y sorted at = subst (λ (z : K). cmp x z ≡ Less) at.2 (All-after_first cmp x xs sorted at.0 y at.1)

  same_head : (x : K) (xs : List K) (y : K) (ys : List K) → IsStrictlySortedBy cmp (x ∷ xs) → IsStrictlySortedBy cmp (y ∷ ys) → Contains (y ∷ ys) x → Contains (x ∷ xs) y → x ≡ y
  same_head x xs y ys sx sy there back = elim (head_or_rest y ys x there) [
    | inl is ↦ sym is
    | inr below ↦ elim (head_or_rest x xs y back) [
      | inl is ↦ is
      | inr above ↦ absurd (apart x y (less_than x xs y sx above) (less_than y ys x sy below))
    ]
  ]

  in_tail : (x : K) (xs : List K) (y : K) (ys : List K) → IsStrictlySortedBy cmp (x ∷ xs) → x ≡ y → ((z : K) → Contains (x ∷ xs) z → Contains (y ∷ ys) z) → (z : K) → Contains xs z → Contains ys z
  in_tail x xs y ys sx is there z at = elim (head_or_rest y ys z (there z (at_rest x xs z at))) [
    | inl first ↦ absurd (
        let less : cmp x z ≡ Less = less_than x xs z sx at in
        let itself : cmp z z ≡ Less = subst (λ (w : K). cmp w z ≡ Less) (is ∙ first) less in
        apart z z itself itself)
    | inr rest ↦ rest
  ]

  sorted_same : (xs ys : List K) → IsStrictlySortedBy cmp xs → IsStrictlySortedBy cmp ys → ((z : K) → Contains xs z ↔ Contains ys z) → xs ≡ ys
  sorted_same [] [] sx sy same = refl
  sorted_same [] (y ∷ ys) sx sy same = absurd (let none : Contains [] y = (same y).1 (at_head y ys) in omega (arith, none.1))
  sorted_same (x ∷ xs) [] sx sy same = absurd (let none : Contains [] x = (same x).0 (at_head x xs) in omega (arith, none.1))
  sorted_same (x ∷ xs) (y ∷ ys) sx sy same =
      let is : x ≡ y = same_head x xs y ys sx sy ((same x).0 (at_head x xs)) ((same y).1 (at_head y ys)) in
      let rest : xs ≡ ys = sorted_same xs ys (sorted_tail cmp x xs sx) (sorted_tail cmp y ys sy)
      (λ z. (in_tail x xs y ys sx is (λ w. (same w).0) z, in_tail y ys x xs sy (sym is) (λ w. (same w).1) z)) in
      λ i. is i ∷ rest i

abbrev origin : BytePlace
origin = record { area = record { 0 = 0 }; offset = 0 }

labels_apart : (a b : Label) → label_cmp a b ≡ Less → label_cmp b a ≡ Less → ⊥
labels_apart a b less more =
    let around : label_cmp a a ≡ Less = fact_total.trans (fact_of origin a) (fact_of origin b) (fact_of origin a) less more in
    let itself : label_cmp a a ≡ Equal = tied_itself fact_total (fact_of origin a) in
    let f : Less ≡ Equal = sym around ∙ itself in cc

follows_ends : (s t : Stretch) → IsFollowedBy s t → EndsBefore s t
follows_ends s t (inl less) = inl less
follows_ends s t (inr h) = inr (h.0, elim h.1 [ inl gap ↦ omega (arith, gap) | inr touch ↦ omega (arith, touch.0) ])

number : (a b : AreaId) → a ≡ b → a.0 ≡ b.0
number a b is = ap (λ (x : AreaId). x.0) is

ends_trans : (r s t : Stretch) → EndsBefore r s → EndsBefore s t → EndsBefore r t
ends_trans r s t (inl less) (inl more) = inl (omega (arith, less, more))
ends_trans r s t (inl less) (inr h) = inl (omega (arith, less, number s.area t.area h.0))
ends_trans r s t (inr h) (inl more) = inl (omega (arith, more, number r.area s.area h.0))
ends_trans r s t (inr h) (inr k) = inr (h.0 ∙ k.0, omega (arith, h.1, k.1))

later : (s : Stretch) (ss : List Stretch) → AreInRow (s ∷ ss) → (u : Stretch) → Contains ss u → EndsBefore s u
later s [] row u at = absurd (omega (arith, at.1))
later s (r ∷ rs) row u at = elim (head_or_rest r rs u at) [
  | inl is ↦ subst (λ (x : Stretch). EndsBefore s x) is (follows_ends s r row.0)
  | inr rest ↦ ends_trans s r u (follows_ends s r row.0) (later r rs row.1 u rest)
]

bytes_apart : (s u : Stretch) (p : BytePlace) → EndsBefore s u → IsByteOf s p → IsByteOf u p → ⊥
bytes_apart s u p (inl less) a b = omega (arith, less, number p.area s.area a.0, number p.area u.area b.0)
bytes_apart s u p (inr h) a b = omega (arith, h.1, a.2, b.1)

row_tail : (s : Stretch) (ss : List Stretch) → AreInRow (s ∷ ss) → AreInRow ss
row_tail s [] row = tt
row_tail s (r ∷ rs) row = row.1

-- the place is not before the stretch
abbrev IsFrom : Stretch → BytePlace → Type 0
IsFrom s p = (s.area.0 < p.area.0) ⊎ ((s.area ≡ p.area) × (s.first ≤ p.offset))

from_first : (s : Stretch) (ss : List Stretch) (f : Fact) → AreInRow (s ∷ ss) → OneSays (s ∷ ss) f → IsFrom s f.place
from_first s ss f row h = elim (head_or_rest s ss h.0 h.1) [
  | inl is ↦ let says : Says s f = subst (λ (x : Stretch). Says x f) (sym is) h.2 in inr (sym says.0.0, says.0.1)
  | inr rest ↦ elim (later s ss row h.0 rest) [
    | inl less ↦ inl (omega (arith, less, number f.place.area h.0.area h.2.0.0))
    | inr ends ↦ inr (ends.0 ∙ sym h.2.0.0, omega (arith, ends.1, h.2.0.1))
  ]
]

abbrev start : Stretch → BytePlace
start s = record { area = s.area; offset = s.first }

starts : (s : Stretch) → IsFull s → IsByteOf s (start s)
starts s full = (refl, omega arith, omega (arith, full.long))

same_start : (s t : Stretch) → IsFrom s (start t) → IsFrom t (start s) → (s.area ≡ t.area) × (s.first ≡ t.first)
same_start s t (inl less) (inl more) = absurd (omega (arith, less, more))
same_start s t (inl less) (inr h) = absurd (omega (arith, less, number t.area s.area h.0))
same_start s t (inr h) (inl more) = absurd (omega (arith, more, number s.area t.area h.0))
same_start s t (inr h) (inr k) = (h.0, omega (arith, h.1, k.1))

-- the labels of a byte of the first stretch are its labels
labels_at : (s : Stretch) (ss : List Stretch) (p : BytePlace) (label : Label) → AreInRow (s ∷ ss) → IsByteOf s p → OneSays (s ∷ ss) (fact_of p label) → Contains s.labels label
labels_at s ss p label row byte h = elim (head_or_rest s ss h.0 h.1) [
  | inl is ↦ let says : Says s (fact_of p label) = subst (λ (x : Stretch). Says x (fact_of p label)) (sym is) h.2 in says.1
  | inr rest ↦ absurd (bytes_apart s h.0 p (later s ss row h.0 rest) byte h.2.0)
]

abbrev AreFull : List Stretch → Type 0
AreFull ss = (s : Stretch) → Contains ss s → IsFull s

abbrev SaySame : List Stretch → List Stretch → Type 0
SaySame ss ts = (f : Fact) → OneSays ss f ↔ OneSays ts f

says_head : (s : Stretch) (ss : List Stretch) (f : Fact) → Says s f → OneSays (s ∷ ss) f
says_head s ss f says = (s, at_head s ss, says)

-- a byte that the first stretches of both lists have bears the labels of both
same_labels : (s : Stretch) (ss : List Stretch) (t : Stretch) (ts : List Stretch) (p : BytePlace) → IsFull s → IsFull t → AreInRow (s ∷ ss) → AreInRow (t ∷ ts) → ((label : Label) → OneSays (s ∷ ss) (fact_of p label) ↔ OneSays (t ∷ ts) (fact_of p label)) → IsByteOf s p → IsByteOf t p → s.labels ≡ t.labels
same_labels s ss t ts p fs ft rs rt same a b = sorted_same label_cmp labels_apart s.labels t.labels fs.ordered ft.ordered (λ label. (
  λ at. labels_at t ts p label rt b ((same label).0 (says_head s ss (fact_of p label) (a, at))),
  λ at. labels_at s ss p label rs a ((same label).1 (says_head t ts (fact_of p label) (b, at))),
))

abbrev end : Stretch → BytePlace
end s = record { area = s.area; offset = s.first + s.length }

not_in : (s : Stretch) → IsByteOf s (end s) → ⊥
not_in s h = omega (arith, h.2)

-- what is said of the byte behind the first stretch, a later one says
behind : (s : Stretch) (ss : List Stretch) (label : Label) → OneSays (s ∷ ss) (fact_of (end s) label) → OneSays ss (fact_of (end s) label)
behind s ss label h = elim (head_or_rest s ss h.0 h.1) [
  | inl is ↦ absurd (let says : Says s (fact_of (end s) label) = subst (λ (x : Stretch). Says x (fact_of (end s) label)) (sym is) h.2 in not_in s says.0)
  | inr rest ↦ (h.0, rest, h.2)
]

touching : (s r : Stretch) → IsFollowedBy s r → IsByteOf r (end s) → s.labels ≡ r.labels → ⊥
touching s r (inl less) byte same = omega (arith, less, number s.area r.area byte.0)
touching s r (inr h) byte same = elim h.1 [ inl gap ↦ absurd (omega (arith, gap, byte.1)) | inr touch ↦ touch.1 same ]

too_late : (s r u : Stretch) → IsFull r → EndsBefore s r → EndsBefore r u → IsByteOf u (end s) → ⊥
too_late s r u full (inl less) (inl more) byte = omega (arith, less, more, number s.area u.area byte.0)
too_late s r u full (inl less) (inr k) byte = omega (arith, less, number r.area u.area k.0, number s.area u.area byte.0)
too_late s r u full (inr h) (inl more) byte = omega (arith, more, number s.area r.area h.0, number s.area u.area byte.0)
too_late s r u full (inr h) (inr k) byte = omega (arith, h.1, k.1, byte.1, full.long)

-- the first stretch of the one list is no shorter than that of the other
not_longer : (s : Stretch) (ss : List Stretch) (t : Stretch) (ts : List Stretch) → AreFull (s ∷ ss) → IsFull t → AreInRow (s ∷ ss) → AreInRow (t ∷ ts) → SaySame (s ∷ ss) (t ∷ ts) → s.labels ≡ t.labels → IsByteOf t (end s) → ⊥
not_longer s [] t ts full ft row rt same labels byte =
    let h : OneSays [] (fact_of (end s) ft.labelled.0) = behind s [] ft.labelled.0 ((same (fact_of (end s) ft.labelled.0)).1 (says_head t ts (fact_of (end s) ft.labelled.0) (byte, ft.labelled.1))) in
    omega (arith, h.1.1)
not_longer s (r ∷ rs) t ts full ft row rt same labels byte =
    let fr : IsFull r = full r (at_rest s (r ∷ rs) r (at_head r rs)) in
    let h : OneSays (r ∷ rs) (fact_of (end s) ft.labelled.0) = behind s (r ∷ rs) ft.labelled.0 ((same (fact_of (end s) ft.labelled.0)).1 (says_head t ts (fact_of (end s) ft.labelled.0) (byte, ft.labelled.1))) in
    elim (head_or_rest r rs h.0 h.1) [
      | inl is ↦
          let here : IsByteOf r (end s) = subst (λ (x : Stretch). IsByteOf x (end s)) (sym is) h.2.0 in
          let alike : r.labels ≡ t.labels = same_labels r rs t ts (end s) fr ft row.1 rt (λ label. (
            λ says. (same (fact_of (end s) label)).0 (says.0, at_rest s (r ∷ rs) says.0 says.1, says.2),
            λ says. behind s (r ∷ rs) label ((same (fact_of (end s) label)).1 says),
          )) here byte in
          touching s r row.0 here (labels ∙ sym alike)
      | inr rest ↦ too_late s r h.0 fr (follows_ends s r row.0) (later r rs row.1 h.0 rest) h.2.0
    ]

-- the first stretches are one
same_first : (s : Stretch) (ss : List Stretch) (t : Stretch) (ts : List Stretch) → AreFull (s ∷ ss) → AreFull (t ∷ ts) → AreInRow (s ∷ ss) → AreInRow (t ∷ ts) → SaySame (s ∷ ss) (t ∷ ts) → s ≡ t
same_first s ss t ts full_s full_t rs rt same =
    let fs : IsFull s = full_s s (at_head s ss) in
    let ft : IsFull t = full_t t (at_head t ts) in
    let a : IsFrom s (start t) = from_first s ss (fact_of (start t) ft.labelled.0) rs ((same (fact_of (start t) ft.labelled.0)).1 (says_head t ts (fact_of (start t) ft.labelled.0) (starts t ft, ft.labelled.1))) in
    let b : IsFrom t (start s) = from_first t ts (fact_of (start s) fs.labelled.0) rt ((same (fact_of (start s) fs.labelled.0)).0 (says_head s ss (fact_of (start s) fs.labelled.0) (starts s fs, fs.labelled.1))) in
    let begin = same_start s t a b in
    let area : s.area ≡ t.area = begin.0 in
    let first : s.first ≡ t.first = begin.1 in
    let labels : s.labels ≡ t.labels = same_labels s ss t ts (start s) fs ft rs rt (λ label. same (fact_of (start s) label)) (starts s fs) (area, omega (arith, first), omega (arith, first, ft.long)) in
    let long : s.length ≡ t.length = elim (cases_lt s.length t.length) [
      | inl less ↦ absurd (not_longer s ss t ts full_s ft rs rt same labels (area, omega (arith, first), omega (arith, first, less)))
      | inr le ↦ elim (cases_lt t.length s.length) [
        | inl more ↦ absurd (not_longer t ts s ss full_t fs rt rs (λ f. ((same f).1, (same f).0)) (sym labels) (sym area, omega (arith, first), omega (arith, first, more)))
        | inr ge ↦ omega (arith, le, ge)
      ]
    ] in
    λ i. record { area = area i; first = first i; length = long i; labels = labels i }

rest_says : (s : Stretch) (ss : List Stretch) (t : Stretch) (ts : List Stretch) → s ≡ t → AreInRow (s ∷ ss) → (f : Fact) → (OneSays (s ∷ ss) f → OneSays (t ∷ ts) f) → OneSays ss f → OneSays ts f
rest_says s ss t ts is row f there h =
    let k : OneSays (t ∷ ts) f = there (h.0, at_rest s ss h.0 h.1, h.2) in
    elim (head_or_rest t ts k.0 k.1) [
      | inl first ↦ absurd (
          let byte : IsByteOf s f.place = subst (λ (x : Stretch). IsByteOf x f.place) (sym (is ∙ first)) k.2.0 in
          bytes_apart s h.0 f.place (later s ss row h.0 h.1) byte h.2.0)
      | inr rest ↦ (k.0, rest, k.2)
    ]

one_list : (ss ts : List Stretch) → AreFull ss → AreFull ts → AreInRow ss → AreInRow ts → SaySame ss ts → ss ≡ ts
one_list [] [] full_s full_t rs rt same = refl
one_list [] (t ∷ ts) full_s full_t rs rt same = absurd (
    let ft : IsFull t = full_t t (at_head t ts) in
    let h : OneSays [] (fact_of (start t) ft.labelled.0) = (same (fact_of (start t) ft.labelled.0)).1 (says_head t ts (fact_of (start t) ft.labelled.0) (starts t ft, ft.labelled.1)) in
    omega (arith, h.1.1))
one_list (s ∷ ss) [] full_s full_t rs rt same = absurd (
    let fs : IsFull s = full_s s (at_head s ss) in
    let h : OneSays [] (fact_of (start s) fs.labelled.0) = (same (fact_of (start s) fs.labelled.0)).0 (says_head s ss (fact_of (start s) fs.labelled.0) (starts s fs, fs.labelled.1)) in
    omega (arith, h.1.1))
one_list (s ∷ ss) (t ∷ ts) full_s full_t rs rt same =
    let is : s ≡ t = same_first s ss t ts full_s full_t rs rt same in
    let rest : ss ≡ ts = one_list ss ts (λ u at. full_s u (at_rest s ss u at)) (λ u at. full_t u (at_rest t ts u at)) (row_tail s ss rs) (row_tail t ts rt)
    (λ f. (rest_says s ss t ts is rs f (same f).0, rest_says t ts s ss (sym is) rt f (same f).1)) in
    λ i. is i ∷ rest i

pub only_list : (facts : List Fact) → HaveOneList facts
only_list facts ss ts a b = one_list ss ts a.full b.full a.row b.row (λ f. (λ h. (b.same f).0 ((a.same f).1 h), λ h. (a.same f).0 ((b.same f).1 h)))
