-- Classes of linked years, and the modes that their marks give.
use Rattle.std.proofs.Common.{◌≡◌, ◌⊎◌, ◌↔◌, inl, inr, arith, ℕ, ◌+◌, ◌<◌, ◌≤◌, ◌==◌, Bool, true, false, ◌||◌, not, IsTrue, List, [], ◌∷◌, ◌++◌, length, take, get_or, slice_get, refl, sym, ap, ◌∙◌, subst, Contains, Option, Some, None, length-append, replicate}
use Rattle.std.proofs.lemmas.Bool.{cases_lt, cases_eq}
use Rattle.std.proofs.lemmas.List.{take_more, take_all, get_or_default, get_or-set_same, get_or-set_other, get_or_append_left, get_or-replicate}
use Rattle.std.proofs.Math.Seq.{get_or-append_seam}
use Rattle.std.proofs.Math.ListN.{set, length-set}
use Rattle.std.proofs.lemmas.Option.{slice_get_within, slice_get-get_or}
use Rattle.std.proofs.lemmas.List.Elements.{Contains-append_left, Contains-append_right, Contains-append_cases, Contains-push, Contains-push_cases}
use Rattle.std.proofs.lemmas.Bool.Decides.{eqb_tells}
use Rattle.y2k_base.specs.declared.place.Span.{Span}
use Rattle.year_labels.specs.declared.rule.RuleForm.{RuleForm}
use Rattle.year_pairs.specs.declared.year.Year.{Year}
use Rattle.label_spread.specs.Steps.{IsInSpan}
use Rattle.disjoint_sets.specs.Sets.{IsKept, AreNamesOf}
use Rattle.window_modes.specs.declared.index.YearByte.{YearByte}
use Rattle.window_modes.specs.declared.marks.Mark.{Mark}
use Rattle.window_modes.specs.declared.modes.WindowGroup.{WindowGroup}
use Rattle.window_modes.specs.declared.modes.YearMode.{YearMode}
use Rattle.window_modes.specs.Links.{HasByte, IsLinked}
use Rattle.window_modes.specs.Modes.{OfYear, IsClosed, IsOfItem, Holds, IsInSet, IsPivotOf, HasClash, IsModeOf, AreModesOf}
use Rattle.window_modes.specs.Work.{byte_at, IsIndexOf, Joins, Between, hit, Marks, AreClassesOf, HasClassIn, HasClass, AreMarked, mode_by, AreOfMarks, AreMarkedModes}

pub classes : (years : List Year) (links : List RuleForm) (old new names : List ℕ) → length old ≡ length years → ((keep : ℕ → Bool) → IsKept old keep) → Joins (Between years (IsLinked links)) old new → AreNamesOf new names → AreClassesOf years links names
classes years links old new names long apart joins named =
    let count : length new ≡ length years = joins.long ∙ long in
    record {
      within = (named.long ∙ count, λ k low. omega (arith, named.within k (omega (arith, low, count)), count));
      linked = λ i j h. (named.same i j (omega (arith, slice_get_within years i h.0 h.1, count)) (omega (arith, slice_get_within years j h.2.0 h.2.1, count))).1
          (λ keep kept. ((joins.joined keep).0 kept).1 i j h);
      least = λ i j set low high closed same.
          (named.same i j (omega (arith, low, count)) (omega (arith, high, count))).0 same set ((joins.joined set).1 (apart set, closed));
    }

-- Marks.

pub hit_twice : (mark : Mark) (pivot : ℕ) → hit (hit mark pivot) pivot ≡ hit mark pivot
hit_twice mark pivot = twice mark.pivot mark.clash pivot where
  again : (pivot : ℕ) → (pivot == pivot) ≡ true
  again pivot = elim (eqb_tells pivot pivot) [ inl yes_it ↦ yes_it.0 | inr other ↦ absurd (other.1 refl) ]

  same_or : (b c : Bool) → ((b || c) || c) ≡ (b || c)
  same_or true true = refl
  same_or true false = refl
  same_or false true = refl
  same_or false false = refl

  or_false : (b : Bool) → (b || false) ≡ b
  or_false true = refl
  or_false false = refl

  mark_of : Option ℕ → Bool → Mark
  mark_of pivot clash = record { pivot = pivot; clash = clash }

  twice : (first : Option ℕ) (clash : Bool) (pivot : ℕ) → hit (hit (record { pivot = first; clash = clash }) pivot) pivot ≡ hit (record { pivot = first; clash = clash }) pivot
  twice None clash pivot = ap (λ (b : Bool). record { pivot = Some pivot; clash = clash || not b }) (again pivot) ∙ ap (λ (b : Bool). record { pivot = Some pivot; clash = b }) (or_false clash)
  twice (Some first) clash pivot = ap (λ (b : Bool). record { pivot = Some first; clash = b }) (same_or clash (not (first == pivot)))

pub Marks-none : (In : ℕ → Type 0) (pivot : ℕ) (old : List Mark) → ((c : ℕ) → In c → ⊥) → Marks In pivot old old
Marks-none In pivot old none = record { long = refl; each = λ c d low. inr (none c, refl) }

pub Marks-alike : (In Also : ℕ → Type 0) (pivot : ℕ) (old new : List Mark) → ((c : ℕ) → In c → Also c) → ((c : ℕ) → Also c → In c) → Marks In pivot old new → Marks Also pivot old new
Marks-alike In Also pivot old new there back a = record {
  long = a.long;
  each = λ c d low. elim (a.each c d low) [
    | inl h ↦ inl (there c h.0, h.1)
    | inr h ↦ inr (λ also. h.0 (back c also), h.1)
  ];
}

pub Marks-both : (In Also : ℕ → Type 0) (pivot : ℕ) (old mid new : List Mark) → Marks In pivot old mid → Marks Also pivot mid new → Marks (λ c. In c ⊎ Also c) pivot old new
Marks-both In Also pivot old mid new a b = record {
  long = b.long ∙ a.long;
  each = λ c d low. elim (a.each c d low) [
    | inl h ↦ elim (b.each c d (omega (arith, low, a.long))) [
      | inl g ↦ inl (inl h.0, g.1 ∙ ap (λ (m : Mark). hit m pivot) h.1 ∙ hit_twice (get_or old c d) pivot)
      | inr g ↦ inl (inl h.0, g.1 ∙ h.1)
    ]
    | inr h ↦ elim (b.each c d (omega (arith, low, a.long))) [
      | inl g ↦ inl (inr g.0, g.1 ∙ ap (λ (m : Mark). hit m pivot) h.1)
      | inr g ↦ inr (λ both. elim both [ inl one ↦ h.0 one | inr other ↦ g.0 other ], g.1 ∙ h.1)
    ]
  ];
}

pub marked_class : (old new : List Mark) (class pivot : ℕ) (m : Mark) → new ≡ set old class (hit m pivot) → m ≡ get_or old class m → class < length old → Marks (λ c. c ≡ class) pivot old new
marked_class old new class pivot m e is low = record {
  long = ap length e ∙ length-set old class (hit m pivot);
  each = λ c d within. elim (cases_eq c class) [
    | inl same ↦ inl (
      same,
      ap (λ (ms : List Mark). get_or ms c d) e ∙ ap (λ (n : ℕ). get_or (set old class (hit m pivot)) n d) same ∙ get_or-set_same old class (hit m pivot) d low
          ∙ ap (λ (x : Mark). hit x pivot) (is ∙ get_or_default old class m d low ∙ ap (λ (n : ℕ). get_or old n d) (sym same)),
    )
    | inr other ↦ inr (other, ap (λ (ms : List Mark). get_or ms c d) e ∙ get_or-set_other old class c (hit m pivot) d other)
  ];
}

module _ {X : Type 0} (P : X → ℕ → Type 0) (xs : List X) (pivot : ℕ) where
  abbrev pub SomeUpTo : ℕ → ℕ → Type 0
  SomeUpTo count c = (x : X) × Contains (take count xs) x × P x c

  abbrev pub Some_one : ℕ → Type 0
  Some_one c = (x : X) × Contains xs x × P x c

  pub marked-none : (old : List Mark) → Marks (SomeUpTo 0) pivot old old
  marked-none old = Marks-none (SomeUpTo 0) pivot old (λ c h. omega (arith, h.1.1))

  pub marked-more : (old now next : List Mark) (count : ℕ) (x : X) → count < length xs → x ≡ get_or xs count x → Marks (SomeUpTo count) pivot old now → Marks (P x) pivot now next → Marks (SomeUpTo (count + 1)) pivot old next
  marked-more old now next count x low is a b =
      let more : take (count + 1) xs ≡ take count xs ++ x ∷ [] = take_more xs count x low ∙ ap (λ (y : X). take count xs ++ y ∷ []) (sym is) in
      Marks-alike (λ c. SomeUpTo count c ⊎ P x c) (SomeUpTo (count + 1)) pivot old next
      (λ c h. elim h [
        | inl before ↦ (before.0, subst (λ (ys : List X). Contains ys before.0) (sym more) (Contains-append_left (take count xs) (x ∷ []) before.0 before.1), before.2)
        | inr here ↦ (x, subst (λ (ys : List X). Contains ys x) (sym more) (Contains-push (take count xs) x), here)
      ])
      (λ c h. elim (Contains-push_cases (take count xs) x h.0 (subst (λ (ys : List X). Contains ys h.0) more h.1)) [
        | inl before ↦ inl (h.0, before, h.2)
        | inr same ↦ inr (subst (λ (y : X). P y c) (sym same) h.2)
      ])
      (Marks-both (SomeUpTo count) (P x) pivot old now next a b)

  pub marked-all : (old now : List Mark) (count : ℕ) → length xs ≤ count → Marks (SomeUpTo count) pivot old now → Marks Some_one pivot old now
  marked-all old now count all a =
      let whole : take count xs ≡ xs = take_all count xs all in
      Marks-alike (SomeUpTo count) Some_one pivot old now
      (λ c h. (h.0, subst (λ (ys : List X). Contains ys h.0) whole h.1, h.2))
      (λ c h. (h.0, subst (λ (ys : List X). Contains ys h.0) (sym whole) h.1, h.2)) a

-- the classes of the bytes that are found in a span
pub marked_span : (bytes found : List YearByte) (names : List ℕ) (span : Span) (pivot : ℕ) (old new : List Mark) → ((b : YearByte) → Contains found b ↔ (Contains bytes b × IsInSpan span b.place)) →
    Marks (Some_one (λ (b : YearByte) (c : ℕ). c ≡ get_or names b.year 0) found pivot) pivot old new → Marks (HasClassIn bytes names span) pivot old new
marked_span bytes found names span pivot old new are = Marks-alike (Some_one (λ (b : YearByte) (c : ℕ). c ≡ get_or names b.year 0) found pivot) (HasClassIn bytes names span) pivot old new
    (λ c h. (h.0, ((are h.0).0 h.1).0, ((are h.0).0 h.1).1, sym h.2))
    (λ c h. (h.0, (are h.0).1 (h.1, h.2), sym h.3))

pub marked_group : (bytes : List YearByte) (names : List ℕ) (groups : List WindowGroup) (group : WindowGroup) (old mid new : List Mark) → AreMarked bytes names groups old mid → Marks (HasClass bytes names group) group.pivot mid new → AreMarked bytes names (groups ++ group ∷ []) old new
marked_group bytes names [] group old mid new a b = (new, subst (λ (ms : List Mark). Marks (HasClass bytes names group) group.pivot ms new) a b, refl)
marked_group bytes names (g ∷ groups) group old mid new a b = (a.0, a.1, marked_group bytes names groups group a.0 mid new a.2 b)

pub marked_long : (bytes : List YearByte) (names : List ℕ) (groups : List WindowGroup) (old new : List Mark) → AreMarked bytes names groups old new → length new ≡ length old
marked_long bytes names [] old new a = ap length a
marked_long bytes names (g ∷ groups) old new a = marked_long bytes names groups a.0 new a.2 ∙ a.1.long

module _ (In : WindowGroup → Type 0) where
  -- the groups one after the other, those that have it hitting a mark
  abbrev pub Hits : List WindowGroup → Mark → Mark → Type 0
  Hits [] old new = new ≡ old
  Hits (g ∷ groups) old new = (mid : Mark) × (((In g) × (mid ≡ hit old g.pivot)) ⊎ ((In g → ⊥) × (mid ≡ old))) × Hits groups mid new

  abbrev HasOther : List WindowGroup → ℕ → Type 0
  HasOther groups first = (g : WindowGroup) × Contains groups g × In g × (first ≡ g.pivot → ⊥)

  front : (g : WindowGroup) (groups : List WindowGroup) → Contains (g ∷ groups) g
  front g groups = Contains-append_left (g ∷ []) groups g (Contains-push [] g)

  behind : (g h : WindowGroup) (groups : List WindowGroup) → Contains groups h → Contains (g ∷ groups) h
  behind g h groups at = Contains-append_right (g ∷ []) groups h at

  split : (g h : WindowGroup) (groups : List WindowGroup) → Contains (g ∷ groups) h → (g ≡ h) ⊎ Contains groups h
  split g h groups at = elim (Contains-append_cases (g ∷ []) groups h at) [
    | inl first ↦ elim (Contains-push_cases [] g h first) [ inl none ↦ absurd (omega (arith, none.1)) | inr is ↦ inl is ]
    | inr rest ↦ inr rest
  ]

  or_cases : (b c : Bool) → (b || c) ≡ true → (b ≡ true) ⊎ (c ≡ true)
  or_cases true c e = inl refl
  or_cases false c e = inr e

  or_left : (b c : Bool) → b ≡ true → (b || c) ≡ true
  or_left true c e = refl
  or_left false c e = absurd (let f : false ≡ true = e in cc)

  or_right : (b c : Bool) → c ≡ true → (b || c) ≡ true
  or_right true c e = refl
  or_right false c e = e

  unlike : (p q : ℕ) → not (p == q) ≡ true → p ≡ q → ⊥
  unlike p q e same = elim (eqb_tells p q) [
    | inl is ↦ absurd (let f : false ≡ true = ap not (sym is.0) ∙ e in cc)
    | inr other ↦ other.1 same
  ]

  is_unlike : (p q : ℕ) → (p ≡ q → ⊥) → not (p == q) ≡ true
  is_unlike p q none = elim (eqb_tells p q) [ inl is ↦ absurd (none is.1) | inr other ↦ ap not other.0 ]

  -- a mark with a pivot keeps it
  kept_pivot : (groups : List WindowGroup) (first : ℕ) (clash : Bool) (new : Mark) → Hits groups (record { pivot = Some first; clash = clash }) new → (new.pivot ≡ Some first) × (IsTrue new.clash ↔ ((clash ≡ true) ⊎ HasOther groups first))
  kept_pivot [] first clash new e = (
    ap (λ (m : Mark). m.pivot) e,
    (λ t. inl (sym (ap (λ (m : Mark). m.clash) e) ∙ t), λ h. elim h [ inl t ↦ ap (λ (m : Mark). m.clash) e ∙ t | inr other ↦ absurd (omega (arith, other.1.1)) ]),
  )
  kept_pivot (g ∷ groups) first clash new (mid, inl h, more) =
      let rest = kept_pivot groups first (clash || not (first == g.pivot)) new (subst (λ (m : Mark). Hits groups m new) h.1 more) in (
        rest.0,
        (
          λ t. elim (rest.1.0 t) [
            | inl e ↦ elim (or_cases clash (not (first == g.pivot)) e) [
              | inl before ↦ inl before
              | inr now ↦ inr (g, front g groups, h.0, unlike first g.pivot now)
            ]
            | inr other ↦ inr (other.0, behind g other.0 groups other.1, other.2, other.3)
          ],
          λ c. rest.1.1 (elim c [
            | inl before ↦ inl (or_left clash (not (first == g.pivot)) before)
            | inr other ↦ elim (split g other.0 groups other.1) [
              | inl is ↦ inl (or_right clash (not (first == g.pivot)) (is_unlike first g.pivot (λ e. other.3 (e ∙ ap (λ (x : WindowGroup). x.pivot) is))))
              | inr at ↦ inr (other.0, at, other.2, other.3)
            ]
          ]),
        ),
      )
  kept_pivot (g ∷ groups) first clash new (mid, inr h, more) =
      let rest = kept_pivot groups first clash new (subst (λ (m : Mark). Hits groups m new) h.1 more) in (
        rest.0,
        (
          λ t. elim (rest.1.0 t) [ inl e ↦ inl e | inr other ↦ inr (other.0, behind g other.0 groups other.1, other.2, other.3) ],
          λ c. rest.1.1 (elim c [
            | inl before ↦ inl before
            | inr other ↦ elim (split g other.0 groups other.1) [
              | inl is ↦ absurd (h.0 (subst In (sym is) other.2))
              | inr at ↦ inr (other.0, at, other.2, other.3)
            ]
          ]),
        ),
      )

  pub first_hit : (groups : List WindowGroup) (new : Mark) → Hits groups (record { pivot = None; clash = false }) new → IsPivotOf In groups new.pivot × (IsTrue new.clash ↔ HasClash In groups)
  first_hit [] new e = (
    ap (λ (m : Mark). m.pivot) e,
    (λ t. absurd (let f : false ≡ true = sym (ap (λ (m : Mark). m.clash) e) ∙ t in cc), λ h. absurd (omega (arith, h.2.1))),
  )
  first_hit (g ∷ groups) new (mid, inl h, more) =
      let rest = kept_pivot groups g.pivot false new (subst (λ (m : Mark). Hits groups m new) h.1 more) in (
        inl (h.0, rest.0),
        (
          λ t. elim (rest.1.0 t) [
            | inl e ↦ absurd (let f : false ≡ true = e in cc)
            | inr other ↦ (g, other.0, front g groups, behind g other.0 groups other.1, h.0, other.2, other.3)
          ],
          λ c. rest.1.1 (inr (other_than g.pivot g groups c.0 c.1 c.2 c.3 c.4 c.5 c.6)),
        ),
      ) where
        other_than : (p : ℕ) (g : WindowGroup) (groups : List WindowGroup) (x y : WindowGroup) → Contains (g ∷ groups) x → Contains (g ∷ groups) y → In x → In y → (x.pivot ≡ y.pivot → ⊥) → HasOther groups g.pivot
        other_than p g groups x y at there in_x in_y apart = elim (split g x groups at) [
          | inl is_x ↦ elim (split g y groups there) [
            | inl is_y ↦ absurd (apart (ap (λ (w : WindowGroup). w.pivot) (sym is_x ∙ is_y)))
            | inr in_rest ↦ (y, in_rest, in_y, λ e. apart (ap (λ (w : WindowGroup). w.pivot) (sym is_x) ∙ e))
          ]
          | inr rest_x ↦ elim (eqb_tells g.pivot x.pivot) [
            | inl same ↦ elim (split g y groups there) [
              | inl is_y ↦ absurd (apart (sym same.1 ∙ ap (λ (w : WindowGroup). w.pivot) is_y))
              | inr rest_y ↦ (y, rest_y, in_y, λ e. apart (sym same.1 ∙ e))
            ]
            | inr other ↦ (x, rest_x, in_x, other.1)
          ]
        ]
  first_hit (g ∷ groups) new (mid, inr h, more) =
      let rest = first_hit groups new (subst (λ (m : Mark). Hits groups m new) h.1 more) in (
        inr (h.0, rest.0),
        (
          λ t. let c = rest.1.0 t in (c.0, c.1, behind g c.0 groups c.2, behind g c.1 groups c.3, c.4, c.5, c.6),
          λ c. rest.1.1 (c.0, c.1, in_rest g groups h.0 c.0 c.4 c.2, in_rest g groups h.0 c.1 c.5 c.3, c.4, c.5, c.6),
        ),
      ) where
        in_rest : (g : WindowGroup) (groups : List WindowGroup) → (In g → ⊥) → (x : WindowGroup) → In x → Contains (g ∷ groups) x → Contains groups x
        in_rest g groups none x is at = elim (split g x groups at) [ inl same ↦ absurd (none (subst In (sym same) is)) | inr rest ↦ rest ]

-- the mark of a class
pub class_hits : (bytes : List YearByte) (names : List ℕ) (groups : List WindowGroup) (old new : List Mark) (c : ℕ) (d : Mark) → c < length old → AreMarked bytes names groups old new → Hits (λ group. HasClass bytes names group c) groups (get_or old c d) (get_or new c d)
class_hits bytes names [] old new c d low a = ap (λ (ms : List Mark). get_or ms c d) a
class_hits bytes names (g ∷ groups) old new c d low a = (get_or a.0 c d, a.1.each c d low, class_hits bytes names groups a.0 new c d (omega (arith, low, a.1.long)) a.2)

-- whether a group has a class is decided
pub decided : (bytes : List YearByte) (names : List ℕ) (groups : List WindowGroup) (old new : List Mark) (group : WindowGroup) → AreMarked bytes names groups old new → Contains groups group → (c : ℕ) → c < length old → HasClass bytes names group c ⊎ (HasClass bytes names group c → ⊥)
decided bytes names [] old new group a at c low = absurd (omega (arith, at.1))
decided bytes names (g ∷ groups) old new group a at c low = elim (split (λ x. HasClass bytes names x c) g group groups at) [
  | inl is ↦ subst (λ (x : WindowGroup). HasClass bytes names x c ⊎ (HasClass bytes names x c → ⊥)) is (elim (a.1.each c (record { pivot = None; clash = false }) low) [ inl h ↦ inl h.0 | inr h ↦ inr h.0 ])
  | inr rest ↦ decided bytes names groups a.0 new group a.2 rest c (omega (arith, low, a.1.long))
]

pub pivot-alike : (In Also : WindowGroup → Type 0) (groups : List WindowGroup) (pivot : Option ℕ) → ((g : WindowGroup) → Contains groups g → In g ↔ Also g) → IsPivotOf In groups pivot → IsPivotOf Also groups pivot
pivot-alike In Also [] pivot same h = h
pivot-alike In Also (g ∷ groups) pivot same (inl h) = inl ((same g (front In g groups)).0 h.0, h.1)
pivot-alike In Also (g ∷ groups) pivot same (inr h) = inr (λ also. h.0 ((same g (front In g groups)).1 also), pivot-alike In Also groups pivot (λ x at. same x (behind In g x groups at)) h.1)

clash-alike : (In Also : WindowGroup → Type 0) (groups : List WindowGroup) → ((g : WindowGroup) → Contains groups g → In g ↔ Also g) → HasClash In groups → HasClash Also groups
clash-alike In Also groups same h = (h.0, h.1, h.2, h.3, (same h.0 h.2).0 h.4, (same h.1 h.3).0 h.5, h.6)

test_of : {A : Type 0} → A ⊎ (A → ⊥) → Bool
test_of (inl a) = true
test_of (inr other) = false

test_true : {A : Type 0} (x : A ⊎ (A → ⊥)) → (test_of x ≡ true) ↔ A
unfolding test_of
test_true (inl a) = (λ e. a, λ h. refl)
test_true (inr other) = (λ e. absurd (let f : false ≡ true = e in cc), λ h. absurd (other h))

module _ (years : List Year) (bytes : List YearByte) (links : List RuleForm) (names : List ℕ) (groups : List WindowGroup) (old new : List Mark) (long : length old ≡ length years)
    (index : IsIndexOf years bytes) (classed : AreClassesOf years links names) (marked : AreMarked bytes names groups old new) where
  abbrev Has : WindowGroup → ℕ → Type 0
  Has group c = HasClass bytes names group c × (c < length years)

  decided_all : (group : WindowGroup) → Contains groups group → (c : ℕ) → Has group c ⊎ (Has group c → ⊥)
  decided_all group at c = elim (cases_lt c (length years)) [
    | inl low ↦ elim (decided bytes names groups old new group marked at c (omega (arith, low, long))) [ inl h ↦ inl (h, low) | inr none ↦ inr (λ h. none h.0) ]
    | inr past ↦ inr (λ h. omega (arith, h.1, past))
  ]

  has_class : (group : WindowGroup) (j : ℕ) → OfYear years j (IsOfItem group) → Has group (get_or names j 0)
  has_class group j h =
      let item : IsOfItem group h.0 = h.2 in
      let b : YearByte = byte_at item.2 j in
      let low : j < length years = slice_get_within years j h.0 h.1 in
      ((item.0, item.1, (b, (index b).1 (h.0, h.1, item.4), item.3, refl)), classed.within.1 j low)

  in_class : (group : WindowGroup) (i : ℕ) → Contains groups group → IsInSet years links group i → HasClass bytes names group (get_or names i 0)
  in_class group i at h =
      let set : ℕ → Bool = λ j. test_of (decided_all group at (get_or names j 0)) in
      let closed : IsClosed years links set = λ j k linked. ap (λ (c : ℕ). test_of (decided_all group at c)) (classed.linked j k linked) in
      let holds : Holds years group set = λ j item. (test_true (decided_all group at (get_or names j 0))).1 (has_class group j item) in
      ((test_true (decided_all group at (get_or names i 0))).0 (h set closed holds)).0

  in_set : (group : WindowGroup) (i : ℕ) → i < length years → HasClass bytes names group (get_or names i 0) → IsInSet years links group i
  in_set group i low h set closed holds =
      let b : YearByte = h.2.0 in
      let byte : OfYear years b.year (λ y. HasByte y b.place) = (index b).0 h.2.1 in
      let seed : IsTrue (set b.year) = holds b.year (byte.0, byte.1, (h.0, h.1, b.place, h.2.2, byte.2)) in
      sym (classed.least b.year i set (slice_get_within years b.year byte.0 byte.1) low closed h.2.3) ∙ seed

  mode_of : (i : ℕ) (y : Year) → i < length years → slice_get years i ≡ Some y → get_or old (get_or names i 0) (record { pivot = None; clash = false }) ≡ record { pivot = None; clash = false } →
      IsModeOf years links groups i (mode_by y (get_or new (get_or names i 0) (record { pivot = None; clash = false })))
  mode_of i y low is blank =
      let none : Mark = record { pivot = None; clash = false } in
      let c : ℕ = get_or names i 0 in
      let within : c < length old = omega (arith, classed.within.1 i low, long) in
      let hits = class_hits bytes names groups old new c none within marked in
      let told = first_hit (λ group. HasClass bytes names group c) groups (get_or new c none) (subst (λ (m : Mark). Hits (λ group. HasClass bytes names group c) groups m (get_or new c none)) blank hits) in
      let same : (g : WindowGroup) → Contains groups g → HasClass bytes names g c ↔ IsInSet years links g i = λ g at. (in_set g i low, in_class g i at) in
      record {
        year = is;
        pivot = pivot-alike (λ group. HasClass bytes names group c) (λ group. IsInSet years links group i) groups (get_or new c none).pivot same told.0;
        clash = (
          λ t. clash-alike (λ group. HasClass bytes names group c) (λ group. IsInSet years links group i) groups same (told.1.0 t),
          λ h. told.1.1 (clash-alike (λ group. IsInSet years links group i) (λ group. HasClass bytes names group c) groups (λ g at. ((same g at).1, (same g at).0)) h),
        );
      }

pub modes_are : (years : List Year) (bytes : List YearByte) (links : List RuleForm) (names : List ℕ) (groups : List WindowGroup) (modes : List YearMode) → IsIndexOf years bytes → AreClassesOf years links names → AreMarkedModes years bytes names groups modes → AreModesOf years links groups modes
modes_are years bytes links names groups modes index classed (old, new, long, blank, marked, told) = record {
  long = told.long;
  each = λ i d low.
      let none : Mark = record { pivot = None; clash = false } in
      subst (λ (m : YearMode). IsModeOf years links groups i m) (sym (told.each i d.year none d low))
      (mode_of years bytes links names groups old new long index classed marked i (get_or years i d.year) low (slice_get-get_or years i d.year low) (blank (get_or names i 0) none (classed.within.1 i low)));
}

pub none_of_marks : (years : List Year) (names : List ℕ) (marks : List Mark) → AreOfMarks years names marks 0 []
none_of_marks years names marks = record { long = refl; each = λ i y m d low. absurd (omega (arith, low)) }

pub of_marks_more : (years : List Year) (names : List ℕ) (marks : List Mark) (number : ℕ) (now next : List YearMode) (y : Year) (m : Mark) → next ≡ now ++ mode_by y m ∷ [] → y ≡ get_or years number y → m ≡ get_or marks (get_or names number 0) m → number < length years → get_or names number 0 < length marks →
    AreOfMarks years names marks number now → AreOfMarks years names marks (number + 1) next
of_marks_more years names marks number now next y m e is_year is_mark low within a = record {
  long = ap length e ∙ length-append now (mode_by y m ∷ []) ∙ ap (λ (n : ℕ). n + 1) a.long;
  each = λ i z k d less. elim (cases_lt i number) [
    | inl before ↦
        let short : i < length now = omega (arith, before, a.long) in
        ap (λ (ms : List YearMode). get_or ms i d) e ∙ get_or_append_left now (mode_by y m ∷ []) d i short ∙ a.each i z k d before
    | inr last ↦
        let is : i ≡ number = omega (arith, last, less) in
        let at : i ≡ length now = omega (arith, is, a.long) in
        let year : y ≡ get_or years i z = is_year ∙ get_or_default years number y z low ∙ ap (λ (n : ℕ). get_or years n z) (sym is) in
        let mark : m ≡ get_or marks (get_or names i 0) k = is_mark ∙ get_or_default marks (get_or names number 0) m k within ∙ ap (λ (n : ℕ). get_or marks (get_or names n 0) k) (sym is) in
        ap (λ (ms : List YearMode). get_or ms i d) e ∙ ap (λ (n : ℕ). get_or (now ++ mode_by y m ∷ []) n d) at ∙ get_or-append_seam now (mode_by y m) [] d ∙ (λ j. mode_by (year j) (mark j))
  ];
}

pub blank_marks : (marks : List Mark) (count : ℕ) → marks ≡ replicate count (record { pivot = None; clash = false }) → (c : ℕ) (d : Mark) → c < count → get_or marks c d ≡ record { pivot = None; clash = false }
blank_marks marks count e c d low = ap (λ (ms : List Mark). get_or ms c d) e ∙ get_or-replicate count c (record { pivot = None; clash = false }) d low
