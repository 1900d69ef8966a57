-- An index of names: one thing more, and what it has at the end.
use Rattle.std.proofs.Common.{◌≡◌, ℕ, ◌+◌, Bool, true, false, cond, ◌&&◌, List, [], ◌∷◌, ◌++◌, length, refl, sym, ap, ◌∙◌, subst, arith, append_assoc, length-append, Option, Some, None, if◌then◌else◌}
use Rattle.std.specs.Prelude.{slice_get}
use Rattle.std.specs.declared.cmp.Ordering.{Ordering}
use Rattle.std.specs.declared.cmp.Ordering.TheVariants.{Less, Equal, Greater}
use Rattle.std.specs.Ordering.{match_ordering, nat_cmp, is_eq}
use Rattle.std.specs.Cmp.Lexicographic.{slice_cmp}
use Rattle.std.specs.Str.{bytes_eq}
use Rattle.std.specs.Map.{lookup, remove_entry}
use Rattle.std.specs.BTreeMap.{insert_entry}
use Rattle.std.proofs.lemmas.List.{append-nil}
use Rattle.std.proofs.lemmas.Map.Text.{is_eq-slice_cmp}
use Rattle.std.proofs.lemmas.Slice.Eq.{bytes_eq-Decides}
use Rattle.data_layout.specs.declared.item.Item.{Item}
use Rattle.data_layout.specs.declared.item.CondItem.{CondItem}
use Rattle.data_layout.specs.declared.item.Layout.{Layout}
use Rattle.data_layout.specs.declared.found.Found.{Found}
use Rattle.data_layout.specs.declared.found.Found.TheVariants as found
use Rattle.data_layout.specs.Find.{has_name, with, is_in, area_of, item_fits, cond_fits, among_items, among_conds, meaning}
use Rattle.data_layout.specs.Index.{list_or_none, holds_nothing, with_found, with_named, with_items, with_conds, names_of, item_in, cond_in, qualified, among}
use Rattle.data_layout.proofs.InFind.{with-with, with-none}

once_more : {V : Type 0} (b : Bool) (x y z : Option V) → cond b x z ≡ cond b x (cond b y z)
once_more {V} true x y z = refl
once_more {V} false x y z = refl

replaced : {V : Type 0} (a b : Bool) (x y z : Option V) → a ≡ b → cond b x z ≡ cond a x (cond b y z)
replaced {V} a b x y z e = subst (λ (c : Bool). cond b x z ≡ cond c x (cond b y z)) (sym e) (once_more b x y z)

differ : Greater ≡ Equal → ⊥
differ h = absurd cc

swapped : {V : Type 0} (a b : Bool) (x y z : Option V) → (a ≡ true → b ≡ true → ⊥) → cond a x (cond b y z) ≡ cond b y (cond a x z)
swapped {V} true true x y z h = absurd (h refl refl)
swapped {V} true false x y z h = refl
swapped {V} false true x y z h = refl
swapped {V} false false x y z h = refl

module _ {K X : Type 0} (cmp : K → K → Ordering) (test : K → Bool) (alike : (x y : K) → cmp x y ≡ Equal → test x ≡ test y) (exact : (x y : K) → test x ≡ true → test y ≡ true → cmp x y ≡ Equal) where
  pub lookup-insert : (es : List (K × X)) (k : K) (v : X) → lookup test (insert_entry cmp es k v) ≡ cond (test k) (Some v) (lookup test es)
  lookup-insert [] k v = refl
  lookup-insert (e ∷ es) k v =
      elim (cmp k e.0) as (λ (o : Ordering). cmp k e.0 ≡ o → lookup test (match_ordering o ((k, v) ∷ e ∷ es) ((e.0, v) ∷ es) (e ∷ insert_entry cmp es k v)) ≡ cond (test k) (Some v) (cond (test e.0) (Some e.1) (lookup test es))) [
        | Less ↦ λ h. refl
        | Equal ↦ λ h. replaced (test k) (test e.0) (Some v) (Some e.1) (lookup test es) (alike k e.0 h)
        | Greater ↦ λ h. ap (λ (o : Option X). cond (test e.0) (Some e.1) o) (lookup-insert es k v)
            ∙ swapped (test e.0) (test k) (Some e.1) (Some v) (lookup test es) (λ a b. differ (sym h ∙ exact k e.0 b a))
      ] refl

pub lookup-remove : {K X : Type 0} (gone test : K → Bool) → ((x : K) → gone x ≡ true → test x ≡ false) → (es : List (K × X)) → lookup test (remove_entry gone es) ≡ lookup test es
lookup-remove {K} {X} gone test h [] = refl
lookup-remove {K} {X} gone test h (e ∷ es) =
    elim (gone e.0) as (λ (b : Bool). gone e.0 ≡ b → lookup test (cond b es (e ∷ remove_entry gone es)) ≡ cond (test e.0) (Some e.1) (lookup test es)) [
      | true ↦ λ g. sym (ap (λ (b : Bool). cond b (Some e.1) (lookup test es)) (h e.0 g))
      | false ↦ λ g. ap (λ (o : Option X). cond (test e.0) (Some e.1) o) (lookup-remove gone test h es)
    ] refl

equal_bytes : (xs ys : List ℕ) → is_eq (slice_cmp nat_cmp xs ys) ≡ true → xs ≡ ys
equal_bytes xs ys h = (bytes_eq-Decides xs ys).0 (sym (is_eq-slice_cmp xs ys) ∙ h)

is_equal : (o : Ordering) → is_eq o ≡ true → o ≡ Equal
is_equal Less h = absurd cc
is_equal Equal h = refl
is_equal Greater h = absurd cc

pub are_alike : (name xs ys : List ℕ) → slice_cmp nat_cmp xs ys ≡ Equal → is_eq (slice_cmp nat_cmp name xs) ≡ is_eq (slice_cmp nat_cmp name ys)
are_alike name xs ys h = ap (λ (zs : List ℕ). is_eq (slice_cmp nat_cmp name zs)) (equal_bytes xs ys (ap is_eq h))

pub are_exact : (name xs ys : List ℕ) → is_eq (slice_cmp nat_cmp name xs) ≡ true → is_eq (slice_cmp nat_cmp name ys) ≡ true → slice_cmp nat_cmp xs ys ≡ Equal
are_exact name xs ys a b =
    let x : name ≡ xs = equal_bytes name xs a in
    let y : name ≡ ys = equal_bytes name ys b in
    is_equal (slice_cmp nat_cmp xs ys) (is_eq-slice_cmp xs ys ∙ (bytes_eq-Decides xs ys).1 (sym x ∙ y))

pub flipped : (xs ys : List ℕ) → bytes_eq xs ys ≡ bytes_eq ys xs
flipped xs ys =
    elim (bytes_eq xs ys) as (λ (b : Bool). bytes_eq xs ys ≡ b → b ≡ bytes_eq ys xs) [
      | true ↦ λ e. sym ((bytes_eq-Decides ys xs).1 (sym ((bytes_eq-Decides xs ys).0 e)))
      | false ↦ λ e. elim (bytes_eq ys xs) as (λ (b : Bool). bytes_eq ys xs ≡ b → false ≡ b) [
        | true ↦ λ h. sym e ∙ (bytes_eq-Decides xs ys).1 (sym ((bytes_eq-Decides ys xs).0 h))
        | false ↦ λ h. refl
      ] refl
    ] refl

pub other_name : (name other xs : List ℕ) → bytes_eq name other ≡ false → is_eq (slice_cmp nat_cmp name xs) ≡ true → is_eq (slice_cmp nat_cmp other xs) ≡ false
other_name name other xs differ h =
    let x : name ≡ xs = equal_bytes name xs h in
    is_eq-slice_cmp other xs ∙ ap (λ (ys : List ℕ). bytes_eq other ys) (sym x) ∙ flipped other name ∙ differ

-- what was put after what was taken
pub put-taken : (before middle after : List ℕ → List Found) (name : List ℕ) (taken list : List Found) (one : Found) (other : List ℕ) → taken ≡ before name → ((x : List ℕ) → bytes_eq name x ≡ false → middle x ≡ before x)
    → list ≡ taken ++ one ∷ [] → ((x : List ℕ) → after x ≡ (if bytes_eq name x then list else middle x)) → after other ≡ with_found before name one other
put-taken before middle after name taken list one other is others longer puts =
    puts other ∙ elim (bytes_eq name other) as (λ (b : Bool). bytes_eq name other ≡ b → (if b then list else middle other) ≡ (if b then before other ++ one ∷ [] else before other)) [
      | true ↦ λ e. longer ∙ ap (λ (l : List Found). l ++ one ∷ []) (is ∙ ap before ((bytes_eq-Decides name other).0 e))
      | false ↦ λ e. others other e
    ] refl

-- what has a name, of the items and condition-names in a row
abbrev named_items : List ℕ → ℕ → List Item → List Found
named_items name number [] = []
named_items name number (item ∷ items) = (if has_name item.name name then found.Item number ∷ [] else []) ++ named_items name (number + 1) items

abbrev named_conds : List ℕ → ℕ → List CondItem → List Found
named_conds name number [] = []
named_conds name number (c ∷ conds) = (if bytes_eq c.name name then found.Named number ∷ [] else []) ++ named_conds name (number + 1) conds

-- the front with one thing more, if it has the name
one_more : (own name : List ℕ) (front : List Found) (one : Found) → (if bytes_eq own name then front ++ one ∷ [] else front) ≡ front ++ (if bytes_eq own name then one ∷ [] else [])
one_more own name front one =
    elim (bytes_eq own name) as (λ (b : Bool). (if b then front ++ one ∷ [] else front) ≡ front ++ (if b then one ∷ [] else [])) [
      | true ↦ refl
      | false ↦ sym (append-nil front)
    ]

maybe_more : (before : List ℕ → List Found) (own : Option (List ℕ)) (name : List ℕ) (one : Found) → with_named before own one name ≡ before name ++ (if has_name own name then one ∷ [] else [])
maybe_more before None name one = sym (append-nil (before name))
maybe_more before (Some own) name one = one_more own name (before name) one

items-are : (before : List ℕ → List Found) (name : List ℕ) (n : ℕ) (items : List Item) → with_items before n items name ≡ before name ++ named_items name n items
items-are before name n [] = sym (append-nil (before name))
items-are before name n (item ∷ items) =
    items-are (with_named before item.name (found.Item n)) name (n + 1) items
    ∙ ap (λ (l : List Found). l ++ named_items name (n + 1) items) (maybe_more before item.name name (found.Item n))
    ∙ append_assoc (before name) (if has_name item.name name then found.Item n ∷ [] else []) (named_items name (n + 1) items)

conds-are : (before : List ℕ → List Found) (name : List ℕ) (n : ℕ) (conds : List CondItem) → with_conds before n conds name ≡ before name ++ named_conds name n conds
conds-are before name n [] = sym (append-nil (before name))
conds-are before name n (c ∷ conds) =
    conds-are (with_found before c.name (found.Named n)) name (n + 1) conds
    ∙ ap (λ (l : List Found). l ++ named_conds name (n + 1) conds) (one_more c.name name (before name) (found.Named n))
    ∙ append_assoc (before name) (if bytes_eq c.name name then found.Named n ∷ [] else []) (named_conds name (n + 1) conds)

slice_get-seam : {X : Type 0} (xs : List X) (x : X) (ys : List X) → slice_get (xs ++ x ∷ ys) (length xs) ≡ Some x
slice_get-seam {X} [] x ys = refl
slice_get-seam {X} (y ∷ xs) x ys = slice_get-seam xs x ys

there : {X : Type 0} (all xs : List X) (x : X) (ys : List X) (n : ℕ) → all ≡ xs ++ x ∷ ys → n ≡ length xs → slice_get all n ≡ Some x
there {X} all xs x ys n is at = ap (λ (l : List X). slice_get l n) is ∙ ap (λ (k : ℕ). slice_get (xs ++ x ∷ ys) k) at ∙ slice_get-seam xs x ys

next-number : {X : Type 0} (xs : List X) (x : X) (n : ℕ) → n ≡ length xs → n + 1 ≡ length (xs ++ x ∷ [])
next-number {X} xs x n at = omega (arith, at, length-append xs (x ∷ []))

module _ (layout : Layout) (name : List ℕ) (qualifiers : List (List ℕ)) where
  among-both : (xs ys : List Found) → among layout qualifiers (xs ++ ys) ≡ with (among layout qualifiers xs) (among layout qualifiers ys)
  among-both [] ys = refl
  among-both (x ∷ xs) ys =
      ap (λ (f : Found). with (qualified layout qualifiers x) f) (among-both xs ys)
      ∙ sym (with-with (qualified layout qualifiers x) (among layout qualifiers xs) (among layout qualifiers ys))

  one-item : (item : Item) (n : ℕ) → slice_get layout.items n ≡ Some item
      → among layout qualifiers (if has_name item.name name then found.Item n ∷ [] else []) ≡ (if item_fits layout name qualifiers item then found.Item n else found.Unknown)
  one-item item n at =
      elim (has_name item.name name) as (λ (b : Bool). among layout qualifiers (if b then found.Item n ∷ [] else []) ≡ (if b && is_in (length layout.items) layout.items layout.areas item.span.area item.parent qualifiers then found.Item n else found.Unknown)) [
        | true ↦ with-none (qualified layout qualifiers (found.Item n)) ∙ ap (λ (o : Option Item). if item_in layout qualifiers o then found.Item n else found.Unknown) at
        | false ↦ refl
      ]

  one-cond : (c : CondItem) (n : ℕ) → slice_get layout.conds n ≡ Some c
      → among layout qualifiers (if bytes_eq c.name name then found.Named n ∷ [] else []) ≡ (if cond_fits layout name qualifiers c then found.Named n else found.Unknown)
  one-cond c n at =
      elim (bytes_eq c.name name) as (λ (b : Bool). among layout qualifiers (if b then found.Named n ∷ [] else []) ≡ (if b && is_in (length layout.items) layout.items layout.areas (area_of (slice_get layout.items c.item)) (Some c.item) qualifiers then found.Named n else found.Unknown)) [
        | true ↦ with-none (qualified layout qualifiers (found.Named n)) ∙ ap (λ (o : Option CondItem). if cond_in layout qualifiers o then found.Named n else found.Unknown) at
        | false ↦ refl
      ]

  all-items : (front : List Item) (n : ℕ) (items : List Item) → layout.items ≡ front ++ items → n ≡ length front
      → among layout qualifiers (named_items name n items) ≡ among_items (item_fits layout name qualifiers) n items
  all-items front n [] is at = refl
  all-items front n (item ∷ items) is at =
      among-both (if has_name item.name name then found.Item n ∷ [] else []) (named_items name (n + 1) items)
      ∙ ap (λ (f : Found). with f (among layout qualifiers (named_items name (n + 1) items))) (one-item item n (there layout.items front item items n is at))
      ∙ ap (λ (f : Found). with (if item_fits layout name qualifiers item then found.Item n else found.Unknown) f)
      (all-items (front ++ item ∷ []) (n + 1) items (is ∙ sym (append_assoc front (item ∷ []) items)) (next-number front item n at))

  all-conds : (front : List CondItem) (n : ℕ) (conds : List CondItem) → layout.conds ≡ front ++ conds → n ≡ length front
      → among layout qualifiers (named_conds name n conds) ≡ among_conds (cond_fits layout name qualifiers) n conds
  all-conds front n [] is at = refl
  all-conds front n (c ∷ conds) is at =
      among-both (if bytes_eq c.name name then found.Named n ∷ [] else []) (named_conds name (n + 1) conds)
      ∙ ap (λ (f : Found). with f (among layout qualifiers (named_conds name (n + 1) conds))) (one-cond c n (there layout.conds front c conds n is at))
      ∙ ap (λ (f : Found). with (if cond_fits layout name qualifiers c then found.Named n else found.Unknown) f)
      (all-conds (front ++ c ∷ []) (n + 1) conds (is ∙ sym (append_assoc front (c ∷ []) conds)) (next-number front c n at))

  -- what has the name and the qualifiers, by the index
  pub meant : (list : List Found) → list ≡ names_of layout.items layout.conds name → among layout qualifiers list ≡ meaning layout (name ∷ qualifiers)
  meant list is =
      ap (among layout qualifiers) (is ∙ conds-are (with_items holds_nothing 0 layout.items) name 0 layout.conds ∙ ap (λ (l : List Found). l ++ named_conds name 0 layout.conds) (items-are holds_nothing name 0 layout.items))
      ∙ among-both (named_items name 0 layout.items) (named_conds name 0 layout.conds)
      ∙ ap (λ (f : Found). with f (among layout qualifiers (named_conds name 0 layout.conds))) (all-items [] 0 layout.items refl refl)
      ∙ ap (λ (f : Found). with (among_items (item_fits layout name qualifiers) 0 layout.items) f) (all-conds [] 0 layout.conds refl refl)

chosen : (b : Bool) (list : List Found) (others : Option (List Found)) → list_or_none (cond b (Some list) others) ≡ (if b then list else list_or_none others)
chosen true list others = refl
chosen false list others = refl

pub others-stay : {K : Type 0} (es : List (K × List Found)) (bytes : K → List ℕ) (name other : List ℕ) → bytes_eq name other ≡ false
    → lookup (λ (k : K). is_eq (slice_cmp nat_cmp other (bytes k))) (remove_entry (λ (k : K). is_eq (slice_cmp nat_cmp name (bytes k))) es) ≡ lookup (λ (k : K). is_eq (slice_cmp nat_cmp other (bytes k))) es
others-stay {K} es bytes name other differ_names =
    lookup-remove (λ (k : K). is_eq (slice_cmp nat_cmp name (bytes k))) (λ (k : K). is_eq (slice_cmp nat_cmp other (bytes k)))
    (λ x h. other_name name other (bytes x) differ_names h) es

pub put-one : {K : Type 0} (es : List (K × List Found)) (bytes : K → List ℕ) (key : K) (name other : List ℕ) (list : List Found) → bytes key ≡ name
    → list_or_none (lookup (λ (k : K). is_eq (slice_cmp nat_cmp other (bytes k))) (insert_entry (λ (a b : K). slice_cmp nat_cmp (bytes a) (bytes b)) es key list))
    ≡ (if bytes_eq name other then list else list_or_none (lookup (λ (k : K). is_eq (slice_cmp nat_cmp other (bytes k))) es))
put-one {K} es bytes key name other list is =
    ap list_or_none (lookup-insert (λ (a b : K). slice_cmp nat_cmp (bytes a) (bytes b)) (λ (k : K). is_eq (slice_cmp nat_cmp other (bytes k)))
    (λ x y. are_alike other (bytes x) (bytes y)) (λ x y. are_exact other (bytes x) (bytes y)) es key list)
    ∙ ap (λ (b : Bool). list_or_none (cond b (Some list) (lookup (λ (k : K). is_eq (slice_cmp nat_cmp other (bytes k))) es)))
    (ap (λ (xs : List ℕ). is_eq (slice_cmp nat_cmp other xs)) is ∙ is_eq-slice_cmp other name ∙ flipped other name)
    ∙ chosen (bytes_eq name other) list (lookup (λ (k : K). is_eq (slice_cmp nat_cmp other (bytes k))) es)

pub items-more : (before after : List ℕ → List Found) (n : ℕ) (rest more : List Item) (item : Item) → rest ≡ item ∷ more → after ≡ with_named before item.name (found.Item n)
    → with_items after (n + 1) more ≡ with_items before n rest
items-more before after n rest more item splits is =
    ap (λ (f : List ℕ → List Found). with_items f (n + 1) more) is ∙ ap (λ (l : List Item). with_items before n l) (sym splits)

pub conds-more : (before after : List ℕ → List Found) (n : ℕ) (rest more : List CondItem) (c : CondItem) → rest ≡ c ∷ more → after ≡ with_found before c.name (found.Named n)
    → with_conds after (n + 1) more ≡ with_conds before n rest
conds-more before after n rest more c splits is =
    ap (λ (f : List ℕ → List Found). with_conds f (n + 1) more) is ∙ ap (λ (l : List CondItem). with_conds before n l) (sym splits)

pub thing-more : (layout : Layout) (qualifiers : List (List ℕ)) (x y z : Found) (rest more : List Found) (thing : Found) → rest ≡ thing ∷ more → y ≡ with x z → z ≡ qualified layout qualifiers thing
    → with y (among layout qualifiers more) ≡ with x (among layout qualifiers rest)
thing-more layout qualifiers x y z rest more thing splits is one =
    ap (λ (f : Found). with f (among layout qualifiers more)) (is ∙ ap (λ (f : Found). with x f) one)
    ∙ with-with x (qualified layout qualifiers thing) (among layout qualifiers more)
    ∙ ap (λ (l : List Found). with x (among layout qualifiers l)) (sym splits)

pub thing-last : (layout : Layout) (qualifiers : List (List ℕ)) (x : Found) (rest : List Found) → rest ≡ [] → x ≡ with x (among layout qualifiers rest)
thing-last layout qualifiers x rest none = sym (ap (λ (l : List Found). with x (among layout qualifiers l)) none ∙ with-none x)
