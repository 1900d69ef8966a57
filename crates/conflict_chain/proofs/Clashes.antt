-- The first two facts of each byte, in order, are its conflict.
use Rattle.std.proofs.Common.{◌≡◌, ◌⊎◌, inl, inr, arith, ℕ, ◌+◌, ◌-◌, ◌<◌, List, [], ◌∷◌, ◌++◌, length, get_or, refl, sym, ap, ◌∙◌, subst, Contains, Some, slice_get}
use Rattle.std.specs.declared.cmp.Ordering.{Ordering}
use Rattle.std.specs.declared.cmp.Ordering.TheVariants.{Less, Equal, Greater}
use Rattle.std.specs.List.{AllByRecursion}
use Rattle.std.specs.List.Sorted.{IsStrictlySortedBy}
use Rattle.std.specs.Ordering.{ordering_then}
use Rattle.std.specs.Cmp.{tied_itself}
use Rattle.std.proofs.lemmas.Bool.{cases_lt}
use Rattle.std.proofs.lemmas.Option.{same_Some, slice_get-get_or, slice_get_within, get_or_from_slice_get}
use Rattle.std.proofs.lemmas.List.Elements.{Contains-append_left, Contains-append_right, Contains-push, Contains-push_cases}
use Rattle.y2k_base.specs.declared.place.BytePlace.{BytePlace}
use Rattle.year_labels.specs.declared.label.Fact.{Fact}
use Rattle.year_labels.specs.declared.label.Label.{Label}
use Rattle.year_labels.specs.declared.label.Label.TheVariants as labels
use Rattle.year_labels.specs.declared.label.Seed.{Seed}
use Rattle.year_labels.specs.declared.rule.RuleInst.{RuleInst}
use Rattle.year_labels.specs.Facts.{fact_of, IsClean}
use Rattle.year_labels.specs.Order.{fact_cmp, place_cmp, label_cmp, IsAscending}
use Rattle.year_labels.proofs.Clean.{IsUpTo, up_to}
use Rattle.year_labels.proofs.Total.{less_before, fact_exact, place_total}
use Rattle.conflict_chain.specs.declared.chain.Conflict.{Conflict}
use Rattle.conflict_chain.specs.Conflicts.{AreLeastLabels, IsConflict, AreConflictsOf}
use Rattle.conflict_chain.specs.Chains.{IsChain}
use Rattle.conflict_chain.specs.Clashes.{AreOfOneByte, IsLaterOne, AreFirstTwo, AreConflictsUpTo}

-- what two places in order are
place_exact : (p q : BytePlace) → place_cmp p q ≡ Equal → p ≡ q
place_exact p q e = ap (λ (f : Fact). f.place) (fact_exact (fact_of p labels.Tens) (fact_of q labels.Tens) (subst (λ (r : Ordering). ordering_then r Equal ≡ Equal) (sym e) refl))

by_place : (r s : Ordering) → ordering_then r s ≡ Less → (r ≡ Less) ⊎ ((r ≡ Equal) × (s ≡ Less))
by_place Less s e = inl refl
by_place Equal s e = inr (refl, e)
by_place Greater s e = absurd (let f : Greater ≡ Less = e in cc)

-- of two facts in order the places are in order, or the labels of one place
in_order : (f g : Fact) → fact_cmp f g ≡ Less → (place_cmp f.place g.place ≡ Less) ⊎ ((f.place ≡ g.place) × (label_cmp f.label g.label ≡ Less))
in_order f g e = elim (by_place (place_cmp f.place g.place) (label_cmp f.label g.label) e) [
  | inl less ↦ inl less
  | inr tied ↦ inr (place_exact f.place g.place tied.0, tied.1)
]

between : (p q : BytePlace) → IsUpTo p q → IsUpTo q p → p ≡ q
between p q (inl a) (inl b) = absurd (omega (arith, a, b))
between p q (inl a) (inr b) = absurd (omega (arith, a, b.0))
between p q (inr a) (inl b) = absurd (omega (arith, a.0, b))
between p q (inr a) (inr b) =
    let area : p.area.0 ≡ q.area.0 = a.0 in
    let offset : p.offset ≡ q.offset = omega (arith, a.1, b.1) in
    λ i. record { area = record { 0 = area i }; offset = offset i }

module _ (facts : List Fact) (sorted : IsAscending facts) where
  before : (i j : ℕ) (f g : Fact) → i < j → slice_get facts i ≡ Some f → slice_get facts j ≡ Some g → fact_cmp f g ≡ Less
  before i j f g low at there =
      let high : j < length facts = slice_get_within facts j g there in
      let first : get_or facts i f ≡ f = get_or_from_slice_get facts i f f at in
      let second : get_or facts j f ≡ g = get_or_from_slice_get facts j g f there in
      subst (λ (x : Fact). fact_cmp f x ≡ Less) second
      (subst (λ (x : Fact). fact_cmp x (get_or facts j f) ≡ Less) first (less_before fact_cmp facts i j f sorted low high))

  -- what stands between two facts of a byte is of the byte
  joined : (i k j : ℕ) (f g h : Fact) → i < k → k < j → slice_get facts i ≡ Some f → slice_get facts k ≡ Some g → slice_get facts j ≡ Some h → f.place ≡ h.place → f.place ≡ g.place
  joined i k j f g h low high at here there e =
      between f.place g.place (up_to f g (before i k f g low at here))
      (subst (λ (p : BytePlace). IsUpTo g.place p) (sym e) (up_to g h (before k j g h high here there)))

  -- where two facts are of one byte, the first and the next are
  neighbours : (i j : ℕ) (f g : Fact) → i < j → slice_get facts i ≡ Some f → slice_get facts j ≡ Some g → f.place ≡ g.place → AreOfOneByte facts i
  neighbours i j f g low at there e = elim (cases_lt (i + 1) j) [
    | inl beyond ↦
        let high : j < length facts = slice_get_within facts j g there in
        let h : Fact = get_or facts (i + 1) f in
        let next : slice_get facts (i + 1) ≡ Some h = slice_get-get_or facts (i + 1) f (omega (arith, high)) in
        (f, h, at, next, joined i (i + 1) j f h g (omega arith) beyond at next there e)
    | inr near ↦
        let is : j ≡ i + 1 = omega arith in
        (f, g, at, subst (λ (n : ℕ). slice_get facts n ≡ Some g) is there, e)
  ]

  -- where two facts are of one byte, the second and the one before are
  later : (i j : ℕ) (f g : Fact) → i < j → slice_get facts i ≡ Some f → slice_get facts j ≡ Some g → f.place ≡ g.place → IsLaterOne facts j
  later i j f g low at there e = elim (cases_lt (i + 1) j) [
    | inl beyond ↦
        let high : j < length facts = slice_get_within facts j g there in
        let h : Fact = get_or facts (j - 1) f in
        let prior : slice_get facts (j - 1) ≡ Some h = slice_get-get_or facts (j - 1) f (omega (arith, high)) in
        let is : j ≡ (j - 1) + 1 = omega (arith, beyond) in
        let place : f.place ≡ h.place = joined i (j - 1) j f h g (omega (arith, beyond)) (omega (arith, beyond)) at prior there e in
        (j - 1, is, (h, g, prior, subst (λ (n : ℕ). slice_get facts n ≡ Some g) is there, sym place ∙ e))
    | inr near ↦
        let is : j ≡ i + 1 = omega arith in
        (i, is, (f, g, at, subst (λ (n : ℕ). slice_get facts n ≡ Some g) is there, e))
  ]

  -- what stands before the first two facts of a byte is of a byte before
  earlier_byte : (j k : ℕ) (f : Fact) (p : BytePlace) (a b : Label) → j < k → slice_get facts j ≡ Some f → AreFirstTwo facts k p a b → place_cmp f.place p ≡ Less
  earlier_byte j k f p a b low at two = elim (in_order f (fact_of p a) (before j k f (fact_of p a) low at two.0)) [
    | inl less ↦ less
    | inr same ↦ absurd (two.2 (later j k f (fact_of p a) low at two.0 same.0))
  ]

  there_at : (k : ℕ) (f : Fact) → slice_get facts k ≡ Some f → Contains facts f
  there_at k f at = (k, slice_get_within facts k f at, get_or_from_slice_get facts k f f at)

  at_of : (f : Fact) (h : Contains facts f) → slice_get facts h.0 ≡ Some f
  at_of f h = slice_get-get_or facts h.0 f h.1 ∙ ap (λ (x : Fact). Some x) h.2

  same_place : (p : BytePlace) → place_cmp p p ≡ Less → ⊥
  same_place p e = absurd (let f : Less ≡ Equal = sym e ∙ tied_itself place_total p in cc)

  label_order : (p : BytePlace) (a b : Label) → fact_cmp (fact_of p a) (fact_of p b) ≡ Less → label_cmp a b ≡ Less
  label_order p a b e = elim (in_order (fact_of p a) (fact_of p b) e) [
    | inl less ↦ absurd (same_place p less)
    | inr tied ↦ tied.1
  ]

  other_label : (k : ℕ) (p : BytePlace) (a b l : Label) → AreFirstTwo facts k p a b → (m : ℕ) → slice_get facts m ≡ Some (fact_of p l) → (l ≡ a) ⊎ ((l ≡ b) ⊎ (label_cmp b l ≡ Less))
  other_label k p a b l two m at = elim (cases_lt m k) [
    | inl low ↦ absurd (same_place p (earlier_byte m k (fact_of p l) p a b low at two))
    | inr up ↦ elim (cases_lt k m) [
      | inr same ↦
          let is : m ≡ k = omega arith in
          let e : Some (fact_of p l) ≡ Some (fact_of p a) = sym at ∙ ap (λ (n : ℕ). slice_get facts n) is ∙ two.0 in
          inl (ap (λ (f : Fact). f.label) (same_Some (fact_of p l) (fact_of p a) e))
      | inl past ↦ elim (cases_lt (k + 1) m) [
        | inl beyond ↦ inr (inr (label_order p b l (before (k + 1) m (fact_of p b) (fact_of p l) beyond two.1 at)))
        | inr near ↦
            let is : m ≡ k + 1 = omega arith in
            let e : Some (fact_of p l) ≡ Some (fact_of p b) = sym at ∙ ap (λ (n : ℕ). slice_get facts n) is ∙ two.1 in
            inr (inl (ap (λ (f : Fact). f.label) (same_Some (fact_of p l) (fact_of p b) e)))
      ]
    ]
  ]

  -- the first two labels of a byte are the least
  pub least : (k : ℕ) (c : Conflict) → AreFirstTwo facts k c.place c.first c.second → AreLeastLabels facts c
  least k c two = record {
    first = there_at k (fact_of c.place c.first) two.0;
    second = there_at (k + 1) (fact_of c.place c.second) two.1;
    rising = label_order c.place c.first c.second (before k (k + 1) (fact_of c.place c.first) (fact_of c.place c.second) (omega arith) two.0 two.1);
    others = λ label h. other_label k c.place c.first c.second label two h.0 (at_of (fact_of c.place label) h);
  }

  -- bytes of two facts have two that are neighbours
  pub pair : (list : List Conflict) → ((j : ℕ) (f : Fact) → j < length facts → AreOfOneByte facts j → slice_get facts j ≡ Some f → (c : Conflict) × Contains list c × (c.place ≡ f.place))
      → (f g : Fact) → Contains facts f → Contains facts g → f.place ≡ g.place → (f.label ≡ g.label → ⊥) → (c : Conflict) × Contains list c × (c.place ≡ f.place)
  pair list all f g at there e unlike =
      let first : slice_get facts at.0 ≡ Some f = at_of f at in
      let second : slice_get facts there.0 ≡ Some g = at_of g there in
      elim (cases_lt at.0 there.0) [
        | inl below ↦ all at.0 f at.1 (neighbours at.0 there.0 f g below first second e) first
        | inr up ↦ elim (cases_lt there.0 at.0) [
          | inl above ↦
              let w = all there.0 g there.1 (neighbours there.0 at.0 g f above second first (sym e)) second in
              (w.0, w.1, w.2 ∙ sym e)
          | inr same ↦
              let is : there.0 ≡ at.0 = omega arith in
              let one : Some f ≡ Some g = sym first ∙ sym (ap (λ (n : ℕ). slice_get facts n) is) ∙ second in
              absurd (unlike (ap (λ (h : Fact). h.label) (same_Some f g one)))
        ]
      ]

all_more : {K : Type 0} (P : K → Type 0) (xs : List K) (x : K) → AllByRecursion P xs → P x → AllByRecursion P (xs ++ x ∷ [])
all_more {K} P [] x each last = (last, tt)
all_more {K} P (y ∷ ys) x each last = (each.0, all_more P ys x each.1 last)

sorted_more : {K : Type 0} (c : K → K → Ordering) (xs : List K) (x : K) → IsStrictlySortedBy c xs → ((y : K) → Contains xs y → c y x ≡ Less) → IsStrictlySortedBy c (xs ++ x ∷ [])
unfolding IsStrictlySortedBy
sorted_more {K} c [] x sorted below = (tt, tt)
sorted_more {K} c (y ∷ ys) x sorted below = (
  all_more (λ (z : K). c y z ≡ Less) ys x sorted.0 (below y (Contains-append_left (y ∷ []) ys y (Contains-push [] y))),
  sorted_more c ys x sorted.1 (λ z at. below z (Contains-append_right (y ∷ []) ys z at)),
)

sorted_none : {K : Type 0} (c : K → K → Ordering) → IsStrictlySortedBy c []
unfolding IsStrictlySortedBy
sorted_none {K} c = tt

module _ (seeds : List Seed) (rules : List RuleInst) (facts : List Fact) where
  -- of no facts there is no conflict
  pub start : AreConflictsUpTo seeds rules facts 0 []
  start = record {
    ascending = λ low. absurd (omega (arith, low));
    sound = λ c at. absurd (omega (arith, at.1));
    found = λ c at. absurd (omega (arith, at.1));
    all = λ j f low. absurd (omega (arith, low));
    ordered = sorted_none (λ (c d : Conflict). place_cmp c.place d.place);
  }

  -- a fact that is no first of two adds none
  pub skip : (k : ℕ) (list : List Conflict) → IsAscending facts → (AreOfOneByte facts k → IsLaterOne facts k) → AreConflictsUpTo seeds rules facts k list → AreConflictsUpTo seeds rules facts (k + 1) list
  skip k list sorted none so_far = record {
    ascending = λ low. sorted;
    sound = so_far.sound;
    found = λ c at. let w = so_far.found c at in (w.0, omega (arith, w.1), w.2);
    all = λ j f low two is. elim (cases_lt j k) [
      | inl less ↦ so_far.all j f less two is
      | inr up ↦
          let same : j ≡ k = omega arith in
          let later : IsLaterOne facts k = none (subst (AreOfOneByte facts) same two) in
          let g : Fact = later.2.0 in
          let h : Fact = later.2.1 in
          let here : Some h ≡ Some f = sym later.2.3 ∙ ap (λ (n : ℕ). slice_get facts n) (sym later.1 ∙ sym same) ∙ is in
          let w = so_far.all later.0 g (omega (arith, later.1)) later.2 later.2.2 in
          (w.0, w.1, w.2 ∙ later.2.4 ∙ ap (λ (x : Fact). x.place) (same_Some h f here))
    ];
    ordered = so_far.ordered;
  }

  -- the first two facts of a byte add its conflict
  pub add : (k : ℕ) (list : List Conflict) (c : Conflict) → IsAscending facts → AreFirstTwo facts k c.place c.first c.second → IsConflict seeds rules facts c → AreConflictsUpTo seeds rules facts k list
      → AreConflictsUpTo seeds rules facts (k + 1) (list ++ c ∷ [])
  add k list c sorted two is so_far = record {
    ascending = λ low. sorted;
    sound = λ d at. elim (Contains-push_cases list c d at) [
      | inl old ↦ so_far.sound d old
      | inr same ↦ subst (IsConflict seeds rules facts) same is
    ];
    found = λ d at. elim (Contains-push_cases list c d at) [
      | inl old ↦ let w = so_far.found d old in (w.0, omega (arith, w.1), w.2)
      | inr same ↦ subst (λ (x : Conflict). (j : ℕ) × (j < k + 1) × (slice_get facts j ≡ Some (fact_of x.place x.first))) same (k, omega arith, two.0)
    ];
    all = λ j f low pair at. elim (cases_lt j k) [
      | inl less ↦ let w = so_far.all j f less pair at in (w.0, Contains-append_left list (c ∷ []) w.0 w.1, w.2)
      | inr up ↦
          let same : j ≡ k = omega arith in
          let here : Some (fact_of c.place c.first) ≡ Some f = sym two.0 ∙ ap (λ (n : ℕ). slice_get facts n) (sym same) ∙ at in
          (c, Contains-push list c, ap (λ (x : Fact). x.place) (same_Some (fact_of c.place c.first) f here))
    ];
    ordered = sorted_more (λ (x y : Conflict). place_cmp x.place y.place) list c so_far.ordered
        (λ d at. let w = so_far.found d at in earlier_byte facts sorted w.0 k (fact_of d.place d.first) c.place c.first c.second w.1 w.2 two);
  }

  -- the conflicts of all facts
  pub done : (list : List Conflict) → AreConflictsUpTo seeds rules facts (length facts) list → AreConflictsOf seeds rules facts list
  done list up = record {
    sound = up.sound;
    all = λ f g at there e unlike. pair facts (up.ascending (omega (arith, at.1))) list up.all f g at there e unlike;
    ordered = up.ordered;
  }

  -- where no byte has two facts there is none
  pub none_at_all : IsClean facts → AreConflictsOf seeds rules facts []
  none_at_all clean = record {
    sound = λ c at. absurd (omega (arith, at.1));
    all = λ f g at there e unlike. absurd (unlike (clean f g at there e));
    ordered = sorted_none (λ (c d : Conflict). place_cmp c.place d.place);
  }

-- a conflict whose labels are the first two of its byte
pub is_conflict : (seeds : List Seed) (rules : List RuleInst) (facts : List Fact) (k : ℕ) (c : Conflict) (p : BytePlace) (a b : Label) → IsAscending facts → AreFirstTwo facts k p a b
    → c.place ≡ p → c.first ≡ a → c.second ≡ b → IsChain seeds rules c.chain1.steps (fact_of p a) → IsChain seeds rules c.chain2.steps (fact_of p b)
    → AreFirstTwo facts k c.place c.first c.second × IsConflict seeds rules facts c
is_conflict seeds rules facts k c p a b sorted two place first second chain1 chain2 =
    let mine : AreFirstTwo facts k c.place c.first c.second = subst (λ (x : BytePlace). AreFirstTwo facts k x c.first c.second) (sym place)
    (subst (λ (x : Label). AreFirstTwo facts k p x c.second) (sym first) (subst (λ (x : Label). AreFirstTwo facts k p a x) (sym second) two)) in
    let fact1 : fact_of p a ≡ fact_of c.place c.first = λ i. fact_of (sym place i) (sym first i) in
    let fact2 : fact_of p b ≡ fact_of c.place c.second = λ i. fact_of (sym place i) (sym second i) in (
      mine,
      record {
        least = least facts sorted k c mine;
        chain1 = subst (IsChain seeds rules c.chain1.steps) fact1 chain1;
        chain2 = subst (IsChain seeds rules c.chain2.steps) fact2 chain2;
      },
    )
