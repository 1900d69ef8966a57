-- Steps over entries that stand side by side.
use Rattle.std.proofs.Common.{◌≡◌, ◌≢◌, ℕ, ◌+◌, ◌||◌, ◌==◌, Bool, true, false, nat_lt, List, [], ◌∷◌, ◌++◌, length, refl, sym, ap, ◌∙◌, arith, append_assoc, length-append, Option, Some, if◌then◌else◌}
use Rattle.std.proofs.lemmas.Bool.{eqb-true}
use Rattle.cobol_syntax.specs.declared.program.Entry.{Entry}
use Rattle.data_layout.specs.declared.item.Item.{Item}
use Rattle.data_layout.specs.declared.item.CondItem.{CondItem}
use Rattle.data_layout.specs.declared.lay.Around.{Around}
use Rattle.data_layout.specs.Tree.{rank, Forest, nothing, node, within, beyond, forest, parts_of, beside, BeginsWithin, GoesOn}
use Rattle.data_layout.specs.Sizes.{is_named, total, size, adds}
use Rattle.data_layout.specs.Items.{items, conds, item_of, cond_of, inside, start_of, item_count}

rank-named : (level : ℕ) → nat_lt 88 (rank level) ≡ false
rank-named level =
    elim (level == 77 || level == 0) as (λ (b : Bool). nat_lt 88 (if b then 1 else (if nat_lt 88 level then 88 else level)) ≡ false) [
      | true ↦ refl
      | false ↦ elim (nat_lt 88 level) as (λ (b : Bool). nat_lt 88 level ≡ b → nat_lt 88 (if b then 88 else level) ≡ false) [
        | true ↦ λ e. refl
        | false ↦ λ e. e
      ] refl
    ]

beyond-named : (es : List Entry) → beyond 88 (forest es) ≡ forest es
beyond-named [] = refl
beyond-named (e ∷ es) =
    ap (λ (b : Bool). if b then beyond 88 (beside e es) else node e (parts_of e es) (beside e es)) (rank-named e.level)

-- nothing is a part of a condition-name
pub beside-named : (e : Entry) (inner : List Entry) → e.level ≡ 88 → beside e inner ≡ forest inner
beside-named e inner h = ap (λ (level : ℕ). beyond (rank level) (forest inner)) h ∙ beyond-named inner

pub named : (e : Entry) → e.level ≡ 88 → is_named e ≡ true
named e h = ap (λ (level : ℕ). level == 88) h

pub named-items : (around : Around) (number next object r : ℕ) (rest inner : List Entry) (e : Entry) → BeginsWithin r rest e inner → e.level ≡ 88
    → items around number next object (within r (forest rest)) ≡ items around number next object (within r (forest inner))
named-items around number next object r rest inner e b h =
    ap (λ (f : Forest). items around number next object f) b.parts
    ∙ ap (λ (t : Bool). if t then items around number next object (within r (beside e inner)) else item_of around (start_of around e next object) e (size e (parts_of e inner)) ∷
    (items (inside around number e (size e (parts_of e inner))) (number + 1) (start_of around e next object) (start_of around e next object) (parts_of e inner)
    ++ items around (number + (1 + item_count (parts_of e inner))) (next + adds e (total (parts_of e inner))) (start_of around e next object) (within r (beside e inner)))) (named e h)
    ∙ ap (λ (f : Forest). items around number next object (within r f)) (beside-named e inner h)

pub named-conds : (parent : Option ℕ) (number r : ℕ) (rest inner : List Entry) (e : Entry) → BeginsWithin r rest e inner → e.level ≡ 88
    → conds parent number (within r (forest rest)) ≡ cond_of parent e ∷ conds parent number (within r (forest inner))
named-conds parent number r rest inner e b h =
    ap (λ (f : Forest). conds parent number f) b.parts
    ∙ ap (λ (t : Bool). if t then cond_of parent e ∷ conds parent number (within r (beside e inner)) else conds (Some number) (number + 1) (parts_of e inner) ++ conds parent (number + (1 + item_count (parts_of e inner))) (within r (beside e inner))) (named e h)
    ∙ ap (λ (f : Forest). cond_of parent e ∷ conds parent number (within r f)) (beside-named e inner h)

pub laid-items : (around : Around) (number next object r : ℕ) (rest inner after : List Entry) (e : Entry) → BeginsWithin r rest e inner → is_named e ≡ false → GoesOn (rank e.level) inner after
    → items around number next object (within r (forest rest)) ≡ item_of around (start_of around e next object) e (size e (parts_of e inner)) ∷
    (items (inside around number e (size e (parts_of e inner))) (number + 1) (start_of around e next object) (start_of around e next object) (parts_of e inner)
    ++ items around (number + (1 + item_count (parts_of e inner))) (next + adds e (total (parts_of e inner))) (start_of around e next object) (within r (forest after)))
laid-items around number next object r rest inner after e b h goes =
    ap (λ (f : Forest). items around number next object f) b.parts
    ∙ ap (λ (t : Bool). if t then items around number next object (within r (beside e inner)) else item_of around (start_of around e next object) e (size e (parts_of e inner)) ∷
    (items (inside around number e (size e (parts_of e inner))) (number + 1) (start_of around e next object) (start_of around e next object) (parts_of e inner)
    ++ items around (number + (1 + item_count (parts_of e inner))) (next + adds e (total (parts_of e inner))) (start_of around e next object) (within r (beside e inner)))) h
    ∙ ap (λ (f : Forest). item_of around (start_of around e next object) e (size e (parts_of e inner)) ∷
    (items (inside around number e (size e (parts_of e inner))) (number + 1) (start_of around e next object) (start_of around e next object) (parts_of e inner)
    ++ items around (number + (1 + item_count (parts_of e inner))) (next + adds e (total (parts_of e inner))) (start_of around e next object) (within r f))) (sym goes.others)

pub laid-conds : (parent : Option ℕ) (number r : ℕ) (rest inner after : List Entry) (e : Entry) → BeginsWithin r rest e inner → is_named e ≡ false → GoesOn (rank e.level) inner after
    → conds parent number (within r (forest rest)) ≡ conds (Some number) (number + 1) (parts_of e inner) ++ conds parent (number + (1 + item_count (parts_of e inner))) (within r (forest after))
laid-conds parent number r rest inner after e b h goes =
    ap (λ (f : Forest). conds parent number f) b.parts
    ∙ ap (λ (t : Bool). if t then cond_of parent e ∷ conds parent number (within r (beside e inner)) else conds (Some number) (number + 1) (parts_of e inner) ++ conds parent (number + (1 + item_count (parts_of e inner))) (within r (beside e inner))) h
    ∙ ap (λ (f : Forest). conds (Some number) (number + 1) (parts_of e inner) ++ conds parent (number + (1 + item_count (parts_of e inner))) (within r f)) (sym goes.others)

-- there are as many items as the entries make
pub item_count-items : (around : Around) (number next object : ℕ) (f : Forest) → length (items around number next object f) ≡ item_count f
item_count-items around number next object nothing = refl
item_count-items around number next object (node e parts others) =
    let s : ℕ = start_of around e next object in
    elim (is_named e) as (λ (b : Bool). length (if b then items around number next object others
    else item_of around s e (size e parts) ∷
    (items (inside around number e (size e parts)) (number + 1) s s parts
    ++ items around (number + (1 + item_count parts)) (next + adds e (total parts)) s others)) ≡ (if b then 0 else 1 + item_count parts) + item_count others) [
      | true ↦ omega (arith, item_count-items around number next object others)
      | false ↦
          let inner : length (items (inside around number e (size e parts)) (number + 1) s s parts) ≡ item_count parts = item_count-items (inside around number e (size e parts)) (number + 1) s s parts in
          let after : length (items around (number + (1 + item_count parts)) (next + adds e (total parts)) s others) ≡ item_count others = item_count-items around (number + (1 + item_count parts)) (next + adds e (total parts)) s others in
          let both : length (items (inside around number e (size e parts)) (number + 1) s s parts ++ items around (number + (1 + item_count parts)) (next + adds e (total parts)) s others) ≡ length (items (inside around number e (size e parts)) (number + 1) s s parts) + length (items around (number + (1 + item_count parts)) (next + adds e (total parts)) s others) = length-append (items (inside around number e (size e parts)) (number + 1) s s parts) (items around (number + (1 + item_count parts)) (next + adds e (total parts)) s others) in
          omega arith
    ]

-- what is laid is longer by an item and its parts
pub joined : (xs ys zs : List Item) (x : Item) (k : ℕ) (more : ℕ → List Item) → length ys ≡ k → zs ≡ xs ++ x ∷ ys
    → zs ++ more (length zs) ≡ xs ++ x ∷ (ys ++ more (length xs + (1 + k)))
joined xs ys zs x k more n is =
    let longer : length zs ≡ length xs + (1 + k) = omega (arith, ap length is, length-append xs (x ∷ ys), n) in
    ap (λ (m : ℕ). zs ++ more m) longer ∙ ap (λ (l : List Item). l ++ more (length xs + (1 + k))) is ∙ append_assoc xs (x ∷ ys) (more (length xs + (1 + k)))

pub longer : (xs ys zs : List Item) (x : Item) (k : ℕ) → length ys ≡ k → zs ≡ xs ++ x ∷ ys → length zs ≡ length xs + (1 + k)
longer xs ys zs x k n is = omega (arith, ap length is, length-append xs (x ∷ ys), n)

pub joined-conds : (xs ys zs : List CondItem) (n m : ℕ) (more : ℕ → List CondItem) → n ≡ m → zs ≡ xs ++ ys → zs ++ more n ≡ xs ++ (ys ++ more m)
joined-conds xs ys zs n m more e is =
    ap (λ (k : ℕ). zs ++ more k) e ∙ ap (λ (l : List CondItem). l ++ more m) is ∙ append_assoc xs ys (more m)

pub not_named : (level : ℕ) → level ≢ 88 → (level == 88) ≡ false
not_named level h = elim (level == 88) as (λ (b : Bool). (level == 88) ≡ b → b ≡ false) [
  | true ↦ λ e. absurd (h (eqb-true level 88 e))
  | false ↦ λ e. refl
] refl

pub pushed : {X : Type 0} (xs zs more : List X) (x y : X) → zs ≡ xs ++ x ∷ [] → x ≡ y → zs ++ more ≡ xs ++ y ∷ more
pushed {X} xs zs more x y is e =
    ap (λ (l : List X). l ++ more) is ∙ append_assoc xs (x ∷ []) more ∙ ap (λ (z : X). xs ++ z ∷ more) e

pub beyond-after-named : (r : ℕ) (rest inner : List Entry) (e : Entry) → BeginsWithin r rest e inner → e.level ≡ 88 → beyond r (forest inner) ≡ beyond r (forest rest)
beyond-after-named r rest inner e b h = sym (b.others ∙ ap (λ (f : Forest). beyond r f) (beside-named e inner h))

pub beyond-after : (r : ℕ) (rest inner after : List Entry) (e : Entry) → BeginsWithin r rest e inner → GoesOn (rank e.level) inner after → beyond r (forest after) ≡ beyond r (forest rest)
beyond-after r rest inner after e b goes = ap (λ (f : Forest). beyond r f) goes.others ∙ sym b.others

-- an item and its parts are laid
pub step-items : (around : Around) (next object s onward r : ℕ) (rest inner after : List Entry) (e : Entry) (xs zs : List Item) → BeginsWithin r rest e inner → e.level ≢ 88 → GoesOn (rank e.level) inner after
    → s ≡ start_of around e next object → onward ≡ next + adds e (total (parts_of e inner))
    → zs ≡ xs ++ item_of around s e (size e (parts_of e inner)) ∷ items (inside around (length xs) e (size e (parts_of e inner))) (length xs + 1) s s (parts_of e inner)
    → zs ++ items around (length zs) onward s (within r (forest after)) ≡ xs ++ items around (length xs) next object (within r (forest rest))
step-items around next object s onward r rest inner after e xs zs b h goes starts goes_on is =
    let k : ℕ = item_count (parts_of e inner) in
    let bytes : ℕ = size e (parts_of e inner) in
    let n : ℕ = length xs in
    let laid : ℕ → ℕ → List Item = λ (from : ℕ) (to : ℕ). item_of around from e bytes ∷ (items (inside around n e bytes) (n + 1) from from (parts_of e inner) ++ items around (n + (1 + k)) to from (within r (forest after))) in
    joined xs (items (inside around n e bytes) (n + 1) s s (parts_of e inner)) zs (item_of around s e bytes) k (λ (m : ℕ). items around m onward s (within r (forest after))) (item_count-items (inside around n e bytes) (n + 1) s s (parts_of e inner)) is
    ∙ ap (λ (l : List Item). xs ++ l) (ap (λ (from : ℕ). laid from onward) starts ∙ ap (λ (to : ℕ). laid (start_of around e next object) to) goes_on
    ∙ sym (laid-items around n next object r rest inner after e b (not_named e.level h) goes))

pub count-laid : (around inner_around : Around) (s bytes n : ℕ) (parts : Forest) (e : Entry) (xs zs : List Item)
    → zs ≡ xs ++ item_of around s e bytes ∷ items inner_around n s s parts → length zs ≡ length xs + (1 + item_count parts)
count-laid around inner_around s bytes n parts e xs zs is =
    longer xs (items inner_around n s s parts) zs (item_of around s e bytes) (item_count parts) (item_count-items inner_around n s s parts) is

pub step-conds : (parent : Option ℕ) (n m r : ℕ) (rest inner after : List Entry) (e : Entry) (xs zs : List CondItem) → BeginsWithin r rest e inner → e.level ≢ 88 → GoesOn (rank e.level) inner after
    → m ≡ n + (1 + item_count (parts_of e inner)) → zs ≡ xs ++ conds (Some n) (n + 1) (parts_of e inner)
    → zs ++ conds parent m (within r (forest after)) ≡ xs ++ conds parent n (within r (forest rest))
step-conds parent n m r rest inner after e xs zs b h goes more is =
    joined-conds xs (conds (Some n) (n + 1) (parts_of e inner)) zs m (n + (1 + item_count (parts_of e inner))) (λ (k : ℕ). conds parent k (within r (forest after))) more is
    ∙ ap (λ (l : List CondItem). xs ++ l) (sym (laid-conds parent n r rest inner after e b (not_named e.level h) goes))
