-- Sets of facts that are kept by blocks of bytes.
use Rattle.std.proofs.Common.{◌≡◌, ◌⊎◌, ◌↔◌, inl, inr, arith, ℕ, ◌-◌, ◌%◌, Bool, true, false, IsTrue, cond, List, [], ◌∷◌, ◌++◌, get_or, replicate, refl, sym, ap, ◌∙◌, subst, Contains, Option, Some}
use Rattle.std.specs.declared.cmp.Ordering.{Ordering}
use Rattle.std.specs.declared.cmp.Ordering.TheVariants.{Less, Equal, Greater}
use Rattle.std.specs.Ordering.{is_eq}
use Rattle.std.specs.BTreeMap.{BTreeMap, get}
use Rattle.std.specs.Cmp.{tied_itself}
use Rattle.std.proofs.lemmas.Bool.{cases_lt}
use Rattle.std.proofs.lemmas.List.{get_or-replicate, get_or_past}
use Rattle.std.proofs.lemmas.List.Elements.{Contains-append_left, Contains-push, Contains-push_cases}
use Rattle.year_labels.specs.declared.label.Fact.{Fact}
use Rattle.year_labels.specs.Order.{fact_cmp}
use Rattle.year_labels.proofs.Total.{fact_exact, fact_total, same_cmp}
use Rattle.year_labels.specs.contracts.label.FactOrd.TheImpl as derived
use Rattle.label_spread.specs.FactSets.{block_of, byte_of, Bears}

equal_from : (r : Ordering) → is_eq r ≡ true → r ≡ Equal
equal_from Less e = absurd (let f : false ≡ true = e in cc)
equal_from Equal e = refl
equal_from Greater e = absurd (let f : false ≡ true = e in cc)

pub none_marked : (k : ℕ) → IsTrue (get_or (replicate 64 false) k false) → ⊥
none_marked k h = elim (cases_lt k 64) [
  | inl low ↦ let f : false ≡ true = sym (get_or-replicate 64 k false false low) ∙ h in cc
  | inr high ↦ let f : false ≡ true = sym (get_or_past (replicate 64 false) k false high) ∙ h in cc
]

put_by : (cmp : Fact → Fact → Ordering) → cmp ≡ fact_cmp → (m n : BTreeMap Fact (List Bool)) (k : Fact) (w : Option (List Bool)) → ((q : Fact) → get cmp n q ≡ cond (is_eq (cmp k q)) w (get cmp m q)) → (q : Fact) → get fact_cmp n q ≡ cond (is_eq (fact_cmp k q)) w (get fact_cmp m q)
put_by cmp e m n k w h = subst (λ (c : Fact → Fact → Ordering). (q : Fact) → get c n q ≡ cond (is_eq (c k q)) w (get c m q)) e h

pub put_held : (m n : BTreeMap Fact (List Bool)) (k : Fact) (w : Option (List Bool)) → ((q : Fact) → get derived.ghosts.cmp n q ≡ cond (is_eq (derived.ghosts.cmp k q)) w (get derived.ghosts.cmp m q)) → (q : Fact) → get fact_cmp n q ≡ cond (is_eq (fact_cmp k q)) w (get fact_cmp m q)
put_held m n k w h = put_by derived.ghosts.cmp (λ i f g. same_cmp f g i) m n k w h

same_fact : (f g : Fact) → block_of f ≡ block_of g → byte_of f ≡ byte_of g → f ≡ g
same_fact f g block byte =
    let area : f.place.area ≡ g.place.area = ap (λ (x : Fact). x.place.area) block in
    let front : f.place.offset - f.place.offset % 64 ≡ g.place.offset - g.place.offset % 64 = ap (λ (x : Fact). x.place.offset) block in
    let offset : f.place.offset ≡ g.place.offset = omega (arith, front, byte) in
    let label : f.label ≡ g.label = ap (λ (x : Fact). x.label) block in
    λ i. record { place = record { area = area i; offset = offset i }; label = label i }

-- one more byte of one block is marked
module _ (old new : Fact → Option (List Bool)) (fact : Fact) (bytes more : List Bool)
    (known : (k : ℕ) → IsTrue (get_or bytes k false) ↔ Bears (old (block_of fact)) k)
    (marked : (k : ℕ) → IsTrue (get_or more k false) ↔ (IsTrue (get_or bytes k false) ⊎ (k ≡ byte_of fact)))
    (put : (q : Fact) → new q ≡ cond (is_eq (fact_cmp (block_of fact) q)) (Some more) (old q))
    (other : Fact) where
  abbrev Now : Type 0
  Now = Bears (new (block_of other)) (byte_of other)

  abbrev Before : Type 0
  Before = Bears (old (block_of other)) (byte_of other)

  in_block : block_of fact ≡ block_of other → new (block_of other) ≡ Some more → Now ↔ (Before ⊎ (other ≡ fact))
  in_block same is = (
    λ h. elim ((marked (byte_of other)).0 (subst (λ (o : Option (List Bool)). Bears o (byte_of other)) is h)) [
      | inl before ↦ inl (subst (λ (b : Fact). Bears (old b) (byte_of other)) same ((known (byte_of other)).0 before))
      | inr byte ↦ inr (same_fact other fact (sym same) byte)
    ],
    λ h. subst (λ (o : Option (List Bool)). Bears o (byte_of other)) (sym is) ((marked (byte_of other)).1 (elim h [
      | inl before ↦ inl ((known (byte_of other)).1 (subst (λ (b : Fact). Bears (old b) (byte_of other)) (sym same) before))
      | inr it ↦ inr (ap byte_of it)
    ])),
  )

  elsewhere : is_eq (fact_cmp (block_of fact) (block_of other)) ≡ false → new (block_of other) ≡ old (block_of other) → Now ↔ (Before ⊎ (other ≡ fact))
  elsewhere apart is = (
    λ h. inl (subst (λ (o : Option (List Bool)). Bears o (byte_of other)) is h),
    λ h. elim h [
      | inl before ↦ subst (λ (o : Option (List Bool)). Bears o (byte_of other)) (sym is) before
      | inr it ↦ absurd (
          let ties : is_eq (fact_cmp (block_of fact) (block_of other)) ≡ true = ap is_eq (ap (λ (f : Fact). fact_cmp (block_of fact) (block_of f)) it ∙ tied_itself fact_total (block_of fact)) in
          let f : false ≡ true = sym apart ∙ ties in cc)
    ],
  )

  by_block : (b : Bool) → is_eq (fact_cmp (block_of fact) (block_of other)) ≡ b → new (block_of other) ≡ cond b (Some more) (old (block_of other)) → Now ↔ (Before ⊎ (other ≡ fact))
  by_block true e is = in_block (fact_exact (block_of fact) (block_of other) (equal_from (fact_cmp (block_of fact) (block_of other)) e)) is
  by_block false e is = elsewhere e is

  marked_in : Now ↔ (Before ⊎ (other ≡ fact))
  marked_in = by_block (is_eq (fact_cmp (block_of fact) (block_of other))) refl (put (block_of other))

pub inserted : (old new : Fact → Option (List Bool)) (fact block : Fact) (byte : ℕ) (bytes more : List Bool) → block ≡ block_of fact → byte ≡ byte_of fact
    → ((k : ℕ) → IsTrue (get_or bytes k false) ↔ Bears (old block) k)
    → ((k : ℕ) → IsTrue (get_or more k false) ↔ (IsTrue (get_or bytes k false) ⊎ (k ≡ byte)))
    → ((q : Fact) → new q ≡ cond (is_eq (fact_cmp block q)) (Some more) (old q))
    → (other : Fact) → Bears (new (block_of other)) (byte_of other) ↔ (Bears (old (block_of other)) (byte_of other) ⊎ (other ≡ fact))
inserted old new fact block byte bytes more b k known marked put other =
    marked_in old new fact bytes more
    (subst (λ (x : Fact). (k : ℕ) → IsTrue (get_or bytes k false) ↔ Bears (old x) k) b known)
    (subst (λ (x : ℕ). (k : ℕ) → IsTrue (get_or more k false) ↔ (IsTrue (get_or bytes k false) ⊎ (k ≡ x))) k marked)
    (subst (λ (x : Fact). (q : Fact) → new q ≡ cond (is_eq (fact_cmp x q)) (Some more) (old q)) b put)
    other

-- a set of just these facts, and one more
pub just_more : (old new : Fact → Type 0) (facts more : List Fact) (fact : Fact) → ((f : Fact) → old f ↔ Contains facts f) → ((f : Fact) → new f ↔ (old f ⊎ (f ≡ fact))) → more ≡ facts ++ fact ∷ [] → (f : Fact) → new f ↔ Contains more f
just_more old new facts more fact just grown is f = (
  λ h. subst (λ (xs : List Fact). Contains xs f) (sym is) (elim ((grown f).0 h) [
    | inl before ↦ Contains-append_left facts (fact ∷ []) f ((just f).0 before)
    | inr it ↦ subst (λ (x : Fact). Contains (facts ++ fact ∷ []) x) (sym it) (Contains-push facts fact)
  ]),
  λ h. (grown f).1 (elim (Contains-push_cases facts fact f (subst (λ (xs : List Fact). Contains xs f) is h)) [
    | inl before ↦ inl ((just f).1 before)
    | inr it ↦ inr (sym it)
  ]),
)

pub just_same : (old new : Fact → Type 0) (facts same : List Fact) → ((f : Fact) → old f ↔ Contains facts f) → ((f : Fact) → new f ↔ old f) → same ≡ facts → (f : Fact) → new f ↔ Contains same f
just_same old new facts same just stays is f = (
  λ h. subst (λ (xs : List Fact). Contains xs f) (sym is) ((just f).0 ((stays f).0 h)),
  λ h. (stays f).1 ((just f).1 (subst (λ (xs : List Fact). Contains xs f) is h)),
)
