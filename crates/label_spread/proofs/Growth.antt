-- Lists of facts that grow by steps.
use Rattle.std.proofs.Common.{◌≡◌, ◌⊎◌, inl, inr, ℕ, ◌+◌, ◌<◌, List, [], ◌∷◌, ◌++◌, length, take, drop, get_or, refl, sym, ap, ◌∙◌, subst, arith, Contains, length-append}
use Rattle.std.proofs.lemmas.Bool.{cases_lt}
use Rattle.std.proofs.lemmas.List.{take-append-le, take-take, take_all, take_at, get_or-take, get_or_append_left, take-append-drop}
use Rattle.std.proofs.lemmas.List.Elements.{Contains-append_left, Contains-push, Contains-push_cases}
use Rattle.std.proofs.Math.Seq.{get_or-append_seam}
use Rattle.year_labels.specs.declared.label.Fact.{Fact}
use Rattle.label_spread.specs.Steps.{Extends, Adds, Starts, Reacts, IsPartOf}

-- a step at equal lists and facts
moved : (P : List Fact → Fact → Type 0) (xs ys : List Fact) (x y : Fact) → xs ≡ ys → x ≡ y → P xs x → P ys y
moved P xs ys x y e f p = subst (λ (zs : List Fact). P zs y) e (subst (λ (z : Fact). P xs z) f p)

-- what is in the front is in the whole
pub Contains-take : {X : Type 0} (n : ℕ) (xs : List X) (x : X) → Contains (take n xs) x → Contains xs x
Contains-take {X} n xs x h = subst (λ (ys : List X). Contains ys x) (take-append-drop n xs) (Contains-append_left (take n xs) (drop n xs) x h)

pub Extends-refl : (P : List Fact → Fact → Type 0) (xs : List Fact) → Extends P xs xs
Extends-refl P xs = record { longer = omega arith; front = take_all (length xs) xs (omega arith); steps = λ k d low high. absurd (omega arith) }

pub Extends-push : (P : List Fact → Fact → Type 0) (old mid : List Fact) (f : Fact) → Extends P old mid → P mid f → Extends P old (mid ++ f ∷ [])
Extends-push P old mid f e s =
    let more : length (mid ++ f ∷ []) ≡ length mid + 1 = length-append mid (f ∷ []) in
    record {
      longer = omega (arith, e.longer);
      front = take-append-le (length old) mid (f ∷ []) e.longer ∙ e.front;
      steps = λ k d low high. elim (cases_lt k (length mid)) [
        | inl below ↦ moved P (take k mid) _ (get_or mid k d) _ (sym (take-append-le k mid (f ∷ []) (omega arith))) (sym (get_or_append_left mid (f ∷ []) d k below)) (e.steps k d low below)
        | inr above ↦
            let is : length mid ≡ k = omega (arith, high) in
            moved P mid _ f _ (sym (take_at mid (f ∷ []) k is)) (sym (ap (λ n. get_or (mid ++ f ∷ []) n d) (sym is) ∙ get_or-append_seam mid f [] d)) s
      ];
    }

pub Extends-contains : (P : List Fact → Fact → Type 0) (old new : List Fact) (f : Fact) → Extends P old new → Contains old f → Contains new f
Extends-contains P old new f e h = Contains-take (length old) new f (subst (λ (xs : List Fact). Contains xs f) (sym e.front) h)

-- steps may be read as others, where what was there is known
pub Extends-weaker : (P Q : List Fact → Fact → Type 0) (old new : List Fact) → ((xs : List Fact) (f : Fact) → ((g : Fact) → Contains old g → Contains xs g) → P xs f → Q xs f) → Extends P old new → Extends Q old new
Extends-weaker P Q old new weaker e = record {
  longer = e.longer;
  front = e.front;
  steps = λ k d low high. weaker (take k new) (get_or new k d)
      (λ g h. Contains-take (length old) (take k new) g (subst (λ (xs : List Fact). Contains xs g) (sym (take-take (length old) k new low ∙ e.front)) h))
      (e.steps k d low high);
}

pub Extends-trans : (P : List Fact → Fact → Type 0) (old mid new : List Fact) → Extends P old mid → Extends P mid new → Extends P old new
Extends-trans P old mid new e h = record {
  longer = omega (arith, e.longer, h.longer);
  front = sym (take-take (length old) (length mid) new e.longer) ∙ ap (take (length old)) h.front ∙ e.front;
  steps = λ k d low high. elim (cases_lt k (length mid)) [
    | inl below ↦ moved P (take k mid) _ (get_or mid k d) _
        (ap (take k) (sym h.front) ∙ take-take k (length mid) new (omega arith))
        (ap (λ (xs : List Fact). get_or xs k d) (sym h.front) ∙ get_or-take (length mid) new k d below)
        (e.steps k d low below)
    | inr above ↦ h.steps k d above high
  ];
}

abbrev pub IsMonotone : (List Fact → Fact → Type 0) → Type 0
IsMonotone P = (xs ys : List Fact) (f : Fact) → ((g : Fact) → Contains xs g → Contains ys g) → P xs f → P ys f

-- first by the one rule, then by the other
pub Adds-both : (P Q : List Fact → Fact → Type 0) (old mid new : List Fact) → IsMonotone Q → Adds P old mid → Adds Q mid new → Adds (λ xs f. P xs f ⊎ Q xs f) old new
Adds-both P Q old mid new grows p q =
    let R : List Fact → Fact → Type 0 = λ xs f. P xs f ⊎ Q xs f in
    record {
      extends = Extends-trans R old mid new
          (Extends-weaker P R old mid (λ xs f k h. inl h) p.extends)
          (Extends-weaker Q R mid new (λ xs f k h. inr h) q.extends);
      all = λ f h. elim h [
        | inl by_p ↦ Extends-contains Q mid new f q.extends (p.all f by_p)
        | inr by_q ↦ q.all f (grows old mid f (λ g at. Extends-contains P old mid g p.extends at) by_q)
      ];
    }

-- what follows, follows from one of the facts
abbrev pub IsByOne : (List Fact → Fact → Type 0) → Type 0
IsByOne P = (xs : List Fact) (f : Fact) → P xs f → (g : Fact) × Contains xs g × P (g ∷ []) f

pub only_one : (g h : Fact) → Contains (g ∷ []) h → g ≡ h
only_one g h at = elim (Contains-push_cases [] g h at) [ inl none ↦ absurd (omega (arith, none.1)) | inr is ↦ is ]

-- an old fact stands where it stood
pub Extends-at : (P : List Fact → Fact → Type 0) (old now : List Fact) (i : ℕ) (d : Fact) → Extends P old now → i < length old → get_or now i d ≡ get_or old i d
Extends-at P old now i d e lt = sym (get_or-take (length old) now i d lt) ∙ ap (λ (xs : List Fact). get_or xs i d) e.front

-- the fact is there already
pub Adds-there : (old : List Fact) (x : Fact) → Contains old x → Adds (λ _ f. f ≡ x) old old
Adds-there old x there = record { extends = Extends-refl _ old; all = λ f is. subst (λ (g : Fact). Contains old g) (sym is) there }

pub Adds-pushed : (old new : List Fact) (x : Fact) → new ≡ old ++ x ∷ [] → Adds (λ _ f. f ≡ x) old new
Adds-pushed old new x e = subst (λ (xs : List Fact). Adds (λ _ f. f ≡ x) old xs) (sym e) (record {
  extends = Extends-push (λ _ f. f ≡ x) old old x (Extends-refl _ old) refl;
  all = λ f is. subst (λ (g : Fact). Contains (old ++ x ∷ []) g) (sym is) (Contains-push old x);
})

pub Adds-none : (P : List Fact → Fact → Type 0) (old : List Fact) → ((f : Fact) → P old f → ⊥) → Adds P old old
Adds-none P old none = record { extends = Extends-refl P old; all = λ f h. absurd (none f h) }

-- a step under another name, where what was there is known
pub Adds-alike : (P Q : List Fact → Fact → Type 0) (old new : List Fact) → ((xs : List Fact) (f : Fact) → IsPartOf old xs → P xs f → Q xs f) → ((f : Fact) → Q old f → P old f) → Adds P old new → Adds Q old new
Adds-alike P Q old new there back a = record { extends = Extends-weaker P Q old new there a.extends; all = λ f h. a.all f (back f h) }

pub part_with : (front old : List Fact) (fact : Fact) → IsPartOf front old → Contains old fact → IsPartOf (front ++ fact ∷ []) old
part_with front old fact part there g at = elim (Contains-push_cases front fact g at) [
  | inl before ↦ part g before
  | inr is ↦ subst (λ (x : Fact). Contains old x) is there
]

-- all that follows from the old facts is there
pub Reacts-whole : (P : List Fact → Fact → Type 0) (fact : Fact) (old new : List Fact) → IsMonotone P → Contains old fact → Adds P old new → Reacts P fact old new
Reacts-whole P fact old new grows there a = record {
  extends = a.extends;
  all = λ front f part h. inr (a.all f (grows (front ++ fact ∷ []) old f (part_with front old fact part there) h));
}

-- nothing follows from the fact
pub Reacts-none : (P : List Fact → Fact → Type 0) (fact : Fact) (old : List Fact) → ((front : List Fact) (f : Fact) → P (front ++ fact ∷ []) f → P front f) → Reacts P fact old old
Reacts-none P fact old none = record { extends = Extends-refl P old; all = λ front f part h. inl (none front f h) }

pub Reacts-both : (P Q : List Fact → Fact → Type 0) (fact : Fact) (old mid new : List Fact) → Reacts P fact old mid → Reacts Q fact mid new → Reacts (λ xs f. P xs f ⊎ Q xs f) fact old new
Reacts-both P Q fact old mid new p q =
    let R : List Fact → Fact → Type 0 = λ xs f. P xs f ⊎ Q xs f in
    record {
      extends = Extends-trans R old mid new
          (Extends-weaker P R old mid (λ xs f k h. inl h) p.extends)
          (Extends-weaker Q R mid new (λ xs f k h. inr h) q.extends);
      all = λ front f part h. elim h [
        | inl by_p ↦ elim (p.all front f part by_p) [
          | inl before ↦ inl (inl before)
          | inr there ↦ inr (Extends-contains Q mid new f q.extends there)
        ]
        | inr by_q ↦ elim (q.all front f (λ g at. Extends-contains P old mid g p.extends (part g at)) by_q) [
          | inl before ↦ inl (inr before)
          | inr there ↦ inr there
        ]
      ];
    }

pub Starts-whole : (P : List Fact → Fact → Type 0) (old new : List Fact) → IsMonotone P → Adds P old new → Starts P old new
Starts-whole P old new grows a = record { extends = a.extends; all = λ f h. a.all f (grows [] old f (λ g at. absurd (omega (arith, at.1))) h) }

-- a reaction under another name
pub Reacts-alike : (P Q : List Fact → Fact → Type 0) (fact : Fact) (old new : List Fact) → ((xs : List Fact) (f : Fact) → P xs f → Q xs f) → ((xs : List Fact) (f : Fact) → Q xs f → P xs f) → Reacts P fact old new → Reacts Q fact old new
Reacts-alike P Q fact old new there back a = record {
  extends = Extends-weaker P Q old new (λ xs f known h. there xs f h) a.extends;
  all = λ front f part h. elim (a.all front f part (back (front ++ fact ∷ []) f h)) [
    | inl before ↦ inl (there front f before)
    | inr at ↦ inr at
  ];
}

-- where the condition holds, what it gives is added
pub Adds-where : (C : List Fact → Type 0) (P : List Fact → Fact → Type 0) (old new : List Fact) → ((xs : List Fact) → IsPartOf old xs → C xs) → Adds P old new → Adds (λ xs f. C xs × P xs f) old new
Adds-where C P old new holds a = Adds-alike P (λ xs f. C xs × P xs f) old new (λ xs f known h. (holds xs known, h)) (λ f h. h.1) a

pub Adds-nowhere : (C : List Fact → Type 0) (P : List Fact → Fact → Type 0) (old : List Fact) → (C old → ⊥) → Adds (λ xs f. C xs × P xs f) old old
Adds-nowhere C P old fails = Adds-none (λ xs f. C xs × P xs f) old (λ f h. fails h.0)
