-- Readers beside grammars, put together in a row, by choice, and as many as there are.
use Rattle.std.proofs.Common.{◌≡◌, ℕ, zero, suc, ◌+◌, Bool, true, false, nat_lt, ◌<◌, ◌≤◌, ◌⊎◌, inl, inr, Option, Some, None, refl, ap, sym, subst, ◌∙◌, arith, if◌then◌else◌}
use Rattle.std.specs.Option.{option_map_or}
use Rattle.std.proofs.lemmas.Bool.Decides.{nat_tests}
use Rattle.cond_reader.specs.Reads.{Reader, chain, and_then}
use Rattle.cond_reader.specs.Relations.{or_else, longer}
use Rattle.cond_reader.specs.CondGrammar.{Then, Run, Series}
use Rattle.cond_reader.specs.CondGrammar.Run.{stop, more}
use Rattle.cond_reader.proofs.Best.{Agrees, Longer}
use Rattle.cond_reader.proofs.Seen.{found, then_some}

-- the same reader, which may stop before more words
pub widened : {A : Type 0} {size : ℕ} {p : Reader A} {P : ℕ → ℕ → A → Type 0} {go : ℕ → Type 0} (go' : ℕ → Type 0) → Agrees size p P go → ((i : ℕ) → go i → go' i) → Agrees size p P go'
widened go' agrees wider = record {
  sound = agrees.sound;
  best = λ i j x w. elim (agrees.best i j x w) [ inl read ↦ inl read | inr g ↦ inr (wider j g.0, g.1) ];
  moves = agrees.moves;
}

-- the same reader beside a grammar with the same readings
pub regrouped : {A : Type 0} {size : ℕ} {p : Reader A} {P : ℕ → ℕ → A → Type 0} {go : ℕ → Type 0} (Q : ℕ → ℕ → A → Type 0) → Agrees size p P go
    → ((i j : ℕ) (x : A) → P i j x → Q i j x) → ((i j : ℕ) (x : A) → Q i j x → P i j x) → Agrees size p Q go
regrouped Q agrees to from = record {
  sound = λ i j x h. to i j x (agrees.sound i j x h);
  best = λ i j x w. agrees.best i j x (from i j x w);
  moves = λ i j x w. agrees.moves i j x (from i j x w);
}

-- another reader with the same answers
pub reread : {A : Type 0} {size : ℕ} {q : Reader A} {P : ℕ → ℕ → A → Type 0} {go : ℕ → Type 0} (p : Reader A) → ((i : ℕ) → p i ≡ q i) → Agrees size q P go → Agrees size p P go
reread p same agrees = record {
  sound = λ i j x h. agrees.sound i j x (sym (same i) ∙ h);
  best = λ i j x w. elim (agrees.best i j x w) [
    | inl read ↦ inl (same i ∙ read)
    | inr g ↦ inr (g.0, record { tree = g.1.tree; end = g.1.end; read = same i ∙ g.1.read; beyond = g.1.beyond })
  ];
  moves = agrees.moves;
}

-- what is read, as a whole of another kind
module _ {A B : Type 0} (size : ℕ) (p : Reader A) (P : ℕ → ℕ → A → Type 0) (go : ℕ → Type 0) (ps : Agrees size p P go) (make : ℕ → ℕ → A → B) where
  abbrev pub made : Reader B
  made i = and_then (p i) (λ a j. Some (make i j a, j))

  pub record Made (i j : ℕ) (b : B) : Type 0 where
    pub part : A
    pub reads : P i j part
    pub is : b ≡ make i j part

  made-read : (i j : ℕ) (a : A) → p i ≡ Some (a, j) → made i ≡ Some (make i j a, j)
  made-read i j a e = ap (λ r. and_then r (λ x k. Some (make i k x, k))) e

  made-sound : (i j : ℕ) (b : B) → made i ≡ Some (b, j) → Made i j b
  made-sound i j b h =
      let step = then_some (p i) (λ a k. Some (make i k a, k)) (b, j) h in
      let same = found (make i step.end step.part) b step.end j step.rest in
      record { part = step.part; reads = ps.sound i j step.part (step.read ∙ ap (λ k. Some (step.part, k)) same.1); is = sym same.0 ∙ ap (λ k. make i k step.part) same.1 }

  made-best : (i j : ℕ) (b : B) → Made i j b → (made i ≡ Some (b, j)) ⊎ (go j × Longer made i j)
  made-best i j b w =
      elim (ps.best i j w.part w.reads) [
        | inl e ↦ inl (made-read i j w.part e ∙ ap (λ y. Some (y, j)) (sym w.is))
        | inr g ↦ inr (g.0, record { tree = make i g.1.end g.1.tree; end = g.1.end; read = made-read i g.1.end g.1.tree g.1.read; beyond = g.1.beyond })
      ]

  pub made-agrees : Agrees size made Made go
  made-agrees = record { sound = made-sound; best = made-best; moves = λ i j b w. ps.moves i j w.part w.reads }

module _ {A B C : Type 0} (size : ℕ) (p : Reader A) (P : ℕ → ℕ → A → Type 0) (goP : ℕ → Type 0) (ps : Agrees size p P goP)
    (q : Reader B) (Q : ℕ → ℕ → B → Type 0) (goQ : ℕ → Type 0) (qs : Agrees size q Q goQ)
    (clash : (m j : ℕ) (y : B) → goP m → Q m j y → ⊥) (make : ℕ → ℕ → A → B → C) where
  abbrev pub sequence : Reader C
  sequence i = and_then (p i) (λ a m. and_then (q m) (λ b j. Some (make i j a b, j)))

  sequence-read : (i m j : ℕ) (a : A) (b : B) → p i ≡ Some (a, m) → q m ≡ Some (b, j) → sequence i ≡ Some (make i j a b, j)
  sequence-read i m j a b e f =
      ap (λ r. and_then r (λ x k. and_then (q k) (λ y n. Some (make i n x y, n)))) e ∙ ap (λ r. and_then r (λ y n. Some (make i n a y, n))) f

  sequence-sound : (i j : ℕ) (x : C) → sequence i ≡ Some (x, j) → Then P Q make i j x
  sequence-sound i j x h =
      let first = then_some (p i) (λ a m. and_then (q m) (λ b k. Some (make i k a b, k))) (x, j) h in
      let second = then_some (q first.end) (λ b k. Some (make i k first.part b, k)) (x, j) first.rest in
      let same = found (make i second.end first.part second.part) x second.end j second.rest in
      record {
        middle = first.end;
        first = first.part;
        second = second.part;
        one = ps.sound i first.end first.part first.read;
        other = qs.sound first.end j second.part (second.read ∙ ap (λ k. Some (second.part, k)) same.1);
        is = sym same.0 ∙ ap (λ k. make i k first.part second.part) same.1;
      }

  sequence-best : (i j : ℕ) (x : C) → Then P Q make i j x → (sequence i ≡ Some (x, j)) ⊎ (goQ j × Longer sequence i j)
  sequence-best i j x w =
      elim (ps.best i w.middle w.first w.one) [
        | inr g ↦ absurd (clash w.middle j w.second g.0 w.other)
        | inl e ↦ elim (qs.best w.middle j w.second w.other) [
          | inl f ↦ inl (sequence-read i w.middle j w.first w.second e f ∙ ap (λ y. Some (y, j)) (sym w.is))
          | inr g ↦ inr (
            g.0,
            record {
              tree = make i g.1.end w.first g.1.tree;
              end = g.1.end;
              read = sequence-read i w.middle g.1.end w.first g.1.tree e g.1.read;
              beyond = g.1.beyond;
            },
          )
        ]
      ]

  pub sequence-agrees : Agrees size sequence (Then P Q make) goQ
  sequence-agrees = record {
    sound = sequence-sound;
    best = sequence-best;
    moves = λ i j x w. let a = ps.moves i w.middle w.first w.one in let b = qs.moves w.middle j w.second w.other in (omega (arith, a, b), a.1);
  }

-- a choice in which the first reader's answer is longer than all that the second one's grammar has
module _ {A : Type 0} (size : ℕ) (p q : Reader A) (P Q : ℕ → ℕ → A → Type 0) (go : ℕ → Type 0) (ps : Agrees size p P go) (qs : Agrees size q Q go)
    (over : (i k j : ℕ) (x y : A) → P i k x → p i ≡ Some (x, k) → Q i j y → go j × (j < k)) where
  abbrev pub first_of : Reader A
  first_of i = or_else (p i) (q i)

  first-read : (i j : ℕ) (x : A) → p i ≡ Some (x, j) → first_of i ≡ Some (x, j)
  first-read i j x e = ap (λ r. or_else r (q i)) e

  second-read : (i : ℕ) → p i ≡ None → first_of i ≡ q i
  second-read i e = ap (λ r. or_else r (q i)) e

  first-sound : (i j : ℕ) (x : A) → first_of i ≡ Some (x, j) → P i j x ⊎ Q i j x
  first-sound i j x h =
      elim (p i) as (λ (r : Option (A × ℕ)). p i ≡ r → P i j x ⊎ Q i j x) [
        | None ↦ λ e. inr (qs.sound i j x (sym (second-read i e) ∙ h))
        | Some r ↦ λ e. inl (ps.sound i j x (e ∙ sym (first-read i r.1 r.0 e) ∙ h))
      ] refl

  first-best : (i j : ℕ) (x : A) → P i j x ⊎ Q i j x → (first_of i ≡ Some (x, j)) ⊎ (go j × Longer first_of i j)
  first-best i j x (inl w) =
      elim (ps.best i j x w) [
        | inl read ↦ inl (first-read i j x read)
        | inr g ↦ inr (g.0, record { tree = g.1.tree; end = g.1.end; read = first-read i g.1.end g.1.tree g.1.read; beyond = g.1.beyond })
      ]
  first-best i j x (inr w) =
      elim (p i) as (λ (r : Option (A × ℕ)). p i ≡ r → (first_of i ≡ Some (x, j)) ⊎ (go j × Longer first_of i j)) [
        | Some r ↦ λ e.
            let far = over i r.1 j r.0 x (ps.sound i r.1 r.0 e) e w in
            inr (far.0, record { tree = r.0; end = r.1; read = first-read i r.1 r.0 e; beyond = far.1 })
        | None ↦ λ e.
            elim (qs.best i j x w) [
              | inl read ↦ inl (second-read i e ∙ read)
              | inr g ↦ inr (g.0, record { tree = g.1.tree; end = g.1.end; read = second-read i e ∙ g.1.read; beyond = g.1.beyond })
            ]
      ] refl

  first-moves : (i j : ℕ) (x : A) → P i j x ⊎ Q i j x → (i < j) × (i < size)
  first-moves i j x (inl w) = ps.moves i j x w
  first-moves i j x (inr w) = qs.moves i j x w

  pub first-agrees : Agrees size first_of (λ i j x. P i j x ⊎ Q i j x) go
  first-agrees = record { sound = first-sound; best = first-best; moves = first-moves }

-- a choice of the longer answer
module _ {A : Type 0} (size : ℕ) (p q : Reader A) (P Q : ℕ → ℕ → A → Type 0) (go : ℕ → Type 0) (ps : Agrees size p P go) (qs : Agrees size q Q go)
    (apart : (i k j : ℕ) (x y : A) → p i ≡ Some (x, k) → q i ≡ Some (y, j) → ((k < j) × go k) ⊎ ((j < k) × go j)) where
  abbrev pub longest_of : Reader A
  longest_of i = longer (p i) (q i)

  both-read : (i : ℕ) (r s : Option (A × ℕ)) → p i ≡ r → q i ≡ s → longest_of i ≡ longer r s
  both-read i r s e f = ap (λ o. longer o (q i)) e ∙ ap (λ o. longer r o) f

  pick : (a b : A × ℕ) → Option (A × ℕ)
  pick a b = if nat_lt a.1 b.1 then Some b else Some a

  picked : (b : Bool) (x y : Option (A × ℕ)) → ((if b then x else y) ≡ x) ⊎ ((if b then x else y) ≡ y)
  picked true x y = inl refl
  picked false x y = inr refl

  take-second : (a b : A × ℕ) → a.1 < b.1 → longer (Some a) (Some b) ≡ Some b
  take-second a b lt = let is : nat_lt a.1 b.1 ≡ true = grind (arith, nat_tests) in ap (λ c. if c then Some b else Some a) is

  take-first : (a b : A × ℕ) → b.1 ≤ a.1 → longer (Some a) (Some b) ≡ Some a
  take-first a b le = let is : nat_lt a.1 b.1 ≡ false = grind (arith, nat_tests) in ap (λ c. if c then Some b else Some a) is

  longest-cases : (i j : ℕ) (x : A) (r s : Option (A × ℕ)) → p i ≡ r → q i ≡ s → longer r s ≡ Some (x, j) → P i j x ⊎ Q i j x
  longest-cases i j x None s e f h = inr (qs.sound i j x (f ∙ h))
  longest-cases i j x (Some a) None e f h = inl (ps.sound i j x (e ∙ h))
  longest-cases i j x (Some a) (Some b) e f h =
      elim (picked (nat_lt a.1 b.1) (Some b) (Some a)) [
        | inl second ↦ inr (qs.sound i j x (f ∙ sym second ∙ h))
        | inr first ↦ inl (ps.sound i j x (e ∙ sym first ∙ h))
      ]

  first-reads : (i j : ℕ) (x : A) (s : Option (A × ℕ)) → p i ≡ Some (x, j) → q i ≡ s → (longest_of i ≡ Some (x, j)) ⊎ (go j × Longer longest_of i j)
  first-reads i j x None e f = inl (both-read i (Some (x, j)) None e f)
  first-reads i j x (Some b) e f =
      elim (apart i j b.1 x b.0 e f) [
        | inl far ↦ inr (far.1, record { tree = b.0; end = b.1; read = both-read i (Some (x, j)) (Some b) e f ∙ take-second (x, j) b far.0; beyond = far.0 })
        | inr near ↦ inl (both-read i (Some (x, j)) (Some b) e f ∙ take-first (x, j) b (omega (arith, near.0)))
      ]

  second-reads : (i j : ℕ) (x : A) (r : Option (A × ℕ)) → p i ≡ r → q i ≡ Some (x, j) → (longest_of i ≡ Some (x, j)) ⊎ (go j × Longer longest_of i j)
  second-reads i j x None e f = inl (both-read i None (Some (x, j)) e f)
  second-reads i j x (Some a) e f =
      elim (apart i a.1 j a.0 x e f) [
        | inl near ↦ inl (both-read i (Some a) (Some (x, j)) e f ∙ take-second a (x, j) near.0)
        | inr far ↦ inr (far.1, record { tree = a.0; end = a.1; read = both-read i (Some a) (Some (x, j)) e f ∙ take-first a (x, j) (omega (arith, far.0)); beyond = far.0 })
      ]

  -- what the longer one of two answers ends beyond
  further : (i j k : ℕ) (x : A) → j < k → (longest_of i ≡ Some (x, k)) ⊎ (go k × Longer longest_of i k) → Longer longest_of i j
  further i j k x lt (inl read) = record { tree = x; end = k; read = read; beyond = lt }
  further i j k x lt (inr g) = record { tree = g.1.tree; end = g.1.end; read = g.1.read; beyond = omega (arith, lt, g.1.beyond) }

  longest-best : (i j : ℕ) (x : A) → P i j x ⊎ Q i j x → (longest_of i ≡ Some (x, j)) ⊎ (go j × Longer longest_of i j)
  longest-best i j x (inl w) =
      elim (ps.best i j x w) [
        | inl read ↦ first-reads i j x (q i) read refl
        | inr g ↦ inr (g.0, further i j g.1.end g.1.tree g.1.beyond (first-reads i g.1.end g.1.tree (q i) g.1.read refl))
      ]
  longest-best i j x (inr w) =
      elim (qs.best i j x w) [
        | inl read ↦ second-reads i j x (p i) refl read
        | inr g ↦ inr (g.0, further i j g.1.end g.1.tree g.1.beyond (second-reads i g.1.end g.1.tree (p i) refl g.1.read))
      ]

  longest-moves : (i j : ℕ) (x : A) → P i j x ⊎ Q i j x → (i < j) × (i < size)
  longest-moves i j x (inl w) = ps.moves i j x w
  longest-moves i j x (inr w) = qs.moves i j x w

  pub longest-agrees : Agrees size longest_of (λ i j x. P i j x ⊎ Q i j x) go
  longest-agrees = record {
    sound = λ i j x h. longest-cases i j x (p i) (q i) refl refl h;
    best = longest-best;
    moves = longest-moves;
  }

-- as many items as there are, each read as what stands before it allows
module _ {A B : Type 0} (size : ℕ) (item : A → Reader B) (Item : A → ℕ → ℕ → B → Type 0) (add : A → B → A) (go begins : ℕ → Type 0) (agrees : (a : A) → Agrees size (item a) (Item a) go)
    (starts : (a : A) (i j : ℕ) (x : B) → Item a i j x → begins i) (clash : (i : ℕ) → go i → begins i → ⊥) where
  abbrev run : ℕ → A → ℕ → A × ℕ
  run = chain item add

  run-zero : (a : A) (i : ℕ) → run 0 a i ≡ (a, i)
  unfolding chain
  run-zero a i = refl

  run-suc : (n : ℕ) (a : A) (i : ℕ) (r : Option (B × ℕ)) → item a i ≡ r → run (suc n) a i ≡ option_map_or (λ p. run n (add a p.0) p.1) r (a, i)
  unfolding chain
  run-suc n a i r e = ap (λ o. option_map_or (λ (p : B × ℕ). chain item add n (add a p.0) p.1) o (a, i)) e

  run-sound : (n : ℕ) (a : A) (i : ℕ) → Run Item add a i (run n a i).1 (run n a i).0
  run-sound zero a i = subst (λ (q : A × ℕ). Run Item add a i q.1 q.0) (sym (run-zero a i)) stop
  run-sound (suc n) a i =
      elim (item a i) as (λ (r : Option (B × ℕ)). item a i ≡ r → Run Item add a i (run (suc n) a i).1 (run (suc n) a i).0) [
        | None ↦ λ e. subst (λ (q : A × ℕ). Run Item add a i q.1 q.0) (sym (run-suc n a i None e)) stop
        | Some p ↦ λ e. subst (λ (q : A × ℕ). Run Item add a i q.1 q.0) (sym (run-suc n a i (Some p) e)) (more ((agrees a).sound i p.1 p.0 e) (run-sound n (add a p.0) p.1))
      ] refl

  run-grows : (n : ℕ) (a : A) (i : ℕ) → i ≤ (run n a i).1
  run-grows zero a i = subst (λ (q : A × ℕ). i ≤ q.1) (sym (run-zero a i)) (omega arith)
  run-grows (suc n) a i =
      elim (item a i) as (λ (r : Option (B × ℕ)). item a i ≡ r → i ≤ (run (suc n) a i).1) [
        | None ↦ λ e. subst (λ (q : A × ℕ). i ≤ q.1) (sym (run-suc n a i None e)) (omega arith)
        | Some p ↦ λ e. subst (λ (q : A × ℕ). i ≤ q.1) (sym (run-suc n a i (Some p) e))
            (omega (arith, (agrees a).moves i p.1 p.0 ((agrees a).sound i p.1 p.0 e), run-grows n (add a p.0) p.1))
      ] refl

  run-beyond : (n : ℕ) (a : A) (i : ℕ) (p : B × ℕ) → item a i ≡ Some p → p.1 ≤ (run (suc n) a i).1
  run-beyond n a i p e = subst (λ (q : A × ℕ). p.1 ≤ q.1) (sym (run-suc n a i (Some p) e)) (run-grows n (add a p.0) p.1)

  no_more : {a c : A} {k j : ℕ} → Run Item add a k j c → go k → j ≡ k
  no_more stop g = refl
  no_more (more one rest) g = absurd (clash _ g (starts _ _ _ _ one))

  run-best : {a c : A} {i j : ℕ} → Run Item add a i j c → (n : ℕ) → size ≤ i + n → (run n a i ≡ (c, j)) ⊎ ((go j ⊎ begins j) × (j < (run n a i).1))
  run-best {a} {c} {i} {j} stop zero fits = inl (run-zero a i)
  run-best {a} {c} {i} {j} stop (suc n) fits =
      elim (item a i) as (λ (r : Option (B × ℕ)). item a i ≡ r → (run (suc n) a i ≡ (a, i)) ⊎ ((go i ⊎ begins i) × (i < (run (suc n) a i).1))) [
        | None ↦ λ e. inl (run-suc n a i None e)
        | Some p ↦ λ e. let one = (agrees a).sound i p.1 p.0 e in
            inr (inr (starts a i p.1 p.0 one), omega (arith, (agrees a).moves i p.1 p.0 one, run-beyond n a i p e))
      ] refl
  run-best {a} {c} {i} {j} (more {k = k} {b = b} one rest) zero fits = absurd (omega (arith, (agrees a).moves i k b one))
  run-best {a} {c} {i} {j} (more {k = k} {b = b} one rest) (suc n) fits =
      elim ((agrees a).best i k b one) [
        | inl e ↦ elim (run-best rest n (omega (arith, (agrees a).moves i k b one))) [
          | inl f ↦ inl (run-suc n a i (Some (b, k)) e ∙ f)
          | inr w ↦ inr (w.0, subst (λ (q : A × ℕ). j < q.1) (sym (run-suc n a i (Some (b, k)) e)) w.1)
        ]
        | inr w ↦ let same : j ≡ k = no_more rest w.0 in
            inr (inl (subst go (sym same) w.0), omega (arith, w.1.beyond, run-beyond n a i (w.1.tree, w.1.end) w.1.read))
      ]

  run-onward : {a c : A} {i j : ℕ} → Run Item add a i j c → i ≤ j
  run-onward stop = omega arith
  run-onward {a} {c} {i} {j} (more {k = k} {b = b} one rest) = omega (arith, (agrees a).moves i k b one, run-onward rest)

  -- nothing more stands there, or it begins there
  pub run-begins : {a c : A} {i j : ℕ} → Run Item add a i j c → (j ≡ i) ⊎ begins i
  run-begins stop = inl refl
  run-begins (more one rest) = inr (starts _ _ _ _ one)

  module _ (p : Reader A) (P : ℕ → ℕ → A → Type 0) (first : Agrees size p P go) where
    abbrev pub series : Reader A
    series i = and_then (p i) (λ x j. Some (run size x j))

    series-some : (i : ℕ) (x : A) (k : ℕ) → p i ≡ Some (x, k) → series i ≡ Some (run size x k)
    series-some i x k e = ap (λ r. and_then r (λ y j. Some (run size y j))) e

    series-sound : (i j : ℕ) (a : A) → series i ≡ Some (a, j) → Series P Item add i j a
    series-sound i j a h =
        elim (p i) as (λ (r : Option (A × ℕ)). p i ≡ r → Series P Item add i j a) [
          | None ↦ λ e. let none : series i ≡ None = ap (λ r. and_then r (λ y j. Some (run size y j))) e in absurd (cc)
          | Some q ↦ λ e.
              let same : run size q.0 q.1 ≡ (a, j) = cc (series-some i q.0 q.1 e, h) in
              record {
                middle = q.1;
                first = q.0;
                one = first.sound i q.1 q.0 e;
                others = subst (λ (r : A × ℕ). Run Item add q.0 q.1 r.1 r.0) same (run-sound size q.0 q.1);
              }
        ] refl

    series-best : (i j : ℕ) (a : A) → Series P Item add i j a → (series i ≡ Some (a, j)) ⊎ ((go j ⊎ begins j) × Longer series i j)
    series-best i j a w =
        elim (first.best i w.middle w.first w.one) [
          | inl e ↦ elim (run-best w.others size (omega arith)) [
            | inl f ↦ inl (series-some i w.first w.middle e ∙ ap (λ r. Some r) f)
            | inr g ↦ inr (
              g.0,
              record {
                tree = (run size w.first w.middle).0;
                end = (run size w.first w.middle).1;
                read = series-some i w.first w.middle e;
                beyond = g.1;
              },
            )
          ]
          | inr g ↦ let same : j ≡ w.middle = no_more w.others g.0 in
              inr (
                subst (λ (k : ℕ). go k ⊎ begins k) (sym same) (inl g.0),
                record {
                  tree = (run size g.1.tree g.1.end).0;
                  end = (run size g.1.tree g.1.end).1;
                  read = series-some i g.1.tree g.1.end g.1.read;
                  beyond = omega (arith, run-grows size g.1.tree g.1.end, g.1.beyond, same);
                },
              )
        ]

    pub series-agrees : Agrees size series (Series P Item add) (λ j. go j ⊎ begins j)
    series-agrees = record {
      sound = series-sound;
      best = series-best;
      moves = λ i j a w. let here = first.moves i w.middle w.first w.one in (omega (arith, here, run-onward w.others), here.1);
    }
