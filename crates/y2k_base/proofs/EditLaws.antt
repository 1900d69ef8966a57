-- Edits found by a search, put in order, and chosen from two lists.
use Rattle.std.proofs.Common.{◌≡◌, ℕ, ◌==◌, ◌&&◌, ◌||◌, ◌++◌, ◌<◌, Bool, true, false, not, cond, List, [], ◌∷◌, Result, Ok, Err, length, get_or, inl, inr, refl, sym, ap, ◌∙◌, subst, arith}
use Rattle.std.specs.List.{filter, list_any}
use Rattle.std.specs.List.Sorted.{IsStableByKey, IsBinarySearchResult, IsSearchInRange, ties}
use Rattle.std.specs.declared.cmp.Ordering.{Ordering}
use Rattle.std.specs.declared.cmp.Ordering.TheVariants.{Less, Equal, Greater}
use Rattle.std.specs.Ordering.{nat_cmp, ordering_then, ordering_reverse, is_lt, is_eq}
use Rattle.std.specs.Result.{is_ok}
use Rattle.std.specs.Cmp.{IsTotalOrder, unsigned_ties, tied_then}
use Rattle.std.proofs.lemmas.Cmp.{nat_cmp_total, on_total, then_total}
use Rattle.std.proofs.lemmas.Bool.{cases_lt, eqb-true, true≢false}
use Rattle.std.proofs.lemmas.List.Elements.{filter-append}
use Rattle.std.proofs.lemmas.List.{append-nil}
use Rattle.std.proofs.lemmas.List.Folds.{list_any_at, list_any_none}
use Rattle.std.proofs.lemmas.List.Sorted.{searchable_from_sorted}
use Rattle.y2k_base.specs.declared.edit.Edit.{Edit}
use Rattle.y2k_base.specs.declared.edit.WordPlace.{WordPlace}
use Rattle.y2k_base.specs.Edits.{word_of, place_cmp, AreInOrder, is_of, edits_of, is_edited_by, second_or_first, AreJoined}

pub place_total : IsTotalOrder place_cmp
place_total = then_total (on_total (λ (p : WordPlace). p.program) nat_cmp_total) (on_total (λ (p : WordPlace). p.position) nat_cmp_total)

-- an edit is of a word exactly where the two words compare as equal
is_of-cmp : (word : WordPlace) (e : Edit) → is_of word e ≡ is_eq (place_cmp (word_of e) word)
is_of-cmp word e =
    ap (λ (b : Bool). b && (e.position == word.position)) (unsigned_ties e.program word.program)
    ∙ ap (λ (b : Bool). is_eq (nat_cmp e.program word.program) && b) (unsigned_ties e.position word.position)
    ∙ tied_then (nat_cmp e.program word.program) (nat_cmp e.position word.position)

-- an edit of that word
abbrev at_word : WordPlace → Edit
at_word word = record { program = word.program; position = word.position; at = record { file = record { 0 = 0 }; line = 0; column = 0 }; words = [] }

pub searched : (xs : List Edit) (word : WordPlace) (r : Result ℕ ℕ) → AreInOrder xs → IsSearchInRange r (length xs)
    → IsBinarySearchResult (λ y. place_cmp (word_of y) word) xs r → is_ok r ≡ list_any (is_of word) xs
searched xs word (Ok i) sorted within here =
    sym (list_any_at (is_of word) xs i (at_word word) within (is_of-cmp word (get_or xs i (at_word word)) ∙ ap is_eq (here (at_word word))))
searched xs word (Err i) sorted within parts =
    let sides = parts (searchable_from_sorted place_total word_of xs word sorted) in
    sym (list_any_none (is_of word) xs (λ k d lt. elim (cases_lt k i) [
      | inl before ↦ is_of-cmp word (get_or xs k d) ∙ ap is_eq (sides.0 k d (omega arith) before)
      | inr after ↦ is_of-cmp word (get_or xs k d) ∙ ap is_eq (sides.1 k d (omega (arith, after)) lt)
    ]))

filter-same : (p q : Edit → Bool) → ((x : Edit) → p x ≡ q x) → (xs : List Edit) → filter p xs ≡ filter q xs
filter-same p q same [] = refl
filter-same p q same (x ∷ xs) =
    ap (λ (b : Bool). cond b (x ∷ filter p xs) (filter p xs)) (same x) ∙ ap (λ (ys : List Edit). cond (q x) (x ∷ ys) ys) (filter-same p q same xs)

level : (r : Ordering) → (not (is_lt (ordering_reverse r)) && not (is_lt r)) ≡ is_eq r
level Less = refl
level Equal = refl
level Greater = refl

ties-of : (x y : Edit) → ties (λ (a b : Edit). is_lt (place_cmp (word_of a) (word_of b))) x y ≡ is_of (word_of x) y
ties-of x y =
    ap (λ (r : Ordering). not (is_lt r) && not (is_lt (place_cmp (word_of y) (word_of x)))) (place_total.antisymm (word_of x) (word_of y))
    ∙ level (place_cmp (word_of y) (word_of x))
    ∙ sym (is_of-cmp (word_of x) y)

pub edits_of-stable : (old new : List Edit) → IsStableByKey word_of place_cmp old new → (word : WordPlace) → edits_of word new ≡ edits_of word old
edits_of-stable old new stable word =
    let like = filter-same (ties (λ (a b : Edit). is_lt (place_cmp (word_of a) (word_of b))) (at_word word)) (is_of word) (ties-of (at_word word)) in
    sym (like new) ∙ stable (at_word word) ∙ like old

none-passes : (p : Edit → Bool) (xs : List Edit) → list_any p xs ≡ false → filter p xs ≡ []
none-passes p [] none = refl
none-passes p (x ∷ xs) none =
    elim (p x) as (λ (b : Bool). (b || list_any p xs) ≡ false → cond b (x ∷ filter p xs) (filter p xs) ≡ []) [
      | true ↦ λ e. absurd (true≢false e)
      | false ↦ λ e. none-passes p xs e
    ] none

some-passes : (p : Edit → Bool) (xs first : List Edit) → list_any p xs ≡ true → second_or_first first (filter p xs) ≡ filter p xs
some-passes p [] first some = absurd (true≢false (sym some))
some-passes p (x ∷ xs) first some =
    elim (p x) as (λ (b : Bool). (b || list_any p xs) ≡ true → second_or_first first (cond b (x ∷ filter p xs) (filter p xs)) ≡ cond b (x ∷ filter p xs) (filter p xs)) [
      | true ↦ λ _. refl
      | false ↦ λ e. some-passes p xs first e
    ] some

-- where q is b of all that passes p
filtered-twice : (p q : Edit → Bool) (b : Bool) → ((e : Edit) → p e ≡ true → q e ≡ b) → (xs : List Edit)
    → filter p (filter (λ e. not (q e)) xs) ≡ cond b [] (filter p xs)
filtered-twice p q b is [] = elim b as (λ (v : Bool). [] ≡ cond {A = List Edit} v [] []) [ true ↦ refl | false ↦ refl ]
filtered-twice p q b is (x ∷ xs) =
    let rest = filtered-twice p q b is xs in
    elim (p x) as (λ (v : Bool). p x ≡ v → filter p (filter (λ e. not (q e)) (x ∷ xs)) ≡ cond b [] (cond v (x ∷ filter p xs) (filter p xs))) [
      | true ↦ λ passes.
          subst (λ (w : Bool). filter p (cond (not w) (x ∷ filter (λ e. not (q e)) xs) (filter (λ e. not (q e)) xs)) ≡ cond b [] (x ∷ filter p xs)) (sym (is x passes))
          (elim b as (λ (v : Bool). filter p (filter (λ e. not (q e)) xs) ≡ cond v [] (filter p xs) → filter p (cond (not v) (x ∷ filter (λ e. not (q e)) xs) (filter (λ e. not (q e)) xs)) ≡ cond v [] (x ∷ filter p xs)) [
            | true ↦ λ r. r
            | false ↦ λ r. ap (λ (v : Bool). cond v (x ∷ filter p (filter (λ e. not (q e)) xs)) (filter p (filter (λ e. not (q e)) xs))) passes ∙ ap (λ (ys : List Edit). x ∷ ys) r
          ] rest)
      | false ↦ λ fails.
          elim (q x) as (λ (w : Bool). filter p (cond (not w) (x ∷ filter (λ e. not (q e)) xs) (filter (λ e. not (q e)) xs)) ≡ cond b [] (filter p xs)) [
            | true ↦ rest
            | false ↦ ap (λ (v : Bool). cond v (x ∷ filter p (filter (λ e. not (q e)) xs)) (filter p (filter (λ e. not (q e)) xs))) fails ∙ rest
          ]
    ] refl

word-is : (word : WordPlace) (e : Edit) → is_of word e ≡ true → word_of e ≡ word
word-is word e same =
    elim (e.program == word.program) as (λ (b : Bool). (e.program == word.program) ≡ b → (b && (e.position == word.position)) ≡ true → word_of e ≡ word) [
      | true ↦ λ left right.
          ap (λ (n : ℕ). let p : WordPlace = record { program = n; position = e.position } in p) (eqb-true e.program word.program left)
          ∙ ap (λ (n : ℕ). let p : WordPlace = record { program = word.program; position = n } in p) (eqb-true e.position word.position right)
      | false ↦ λ left right. absurd (true≢false (sym right))
    ] refl same

pub chosen : (first second : List Edit) (word : WordPlace)
    → edits_of word (filter (λ e. not (is_edited_by second e)) first ++ second) ≡ second_or_first (edits_of word first) (edits_of word second)
chosen first second word =
    filter-append (is_of word) (filter (λ e. not (is_edited_by second e)) first) second
    ∙ elim (list_any (is_of word) second) as (λ (b : Bool). list_any (is_of word) second ≡ b → (filter (is_of word) (filter (λ e. not (is_edited_by second e)) first) ++ edits_of word second) ≡ second_or_first (edits_of word first) (edits_of word second)) [
      | true ↦ λ some.
          ap (λ (xs : List Edit). xs ++ edits_of word second) (filtered-twice (is_of word) (is_edited_by second) true (λ e same. ap (λ (w : WordPlace). list_any (is_of w) second) (word-is word e same) ∙ some) first)
          ∙ sym (some-passes (is_of word) second (edits_of word first) some)
      | false ↦ λ none.
          ap (λ (xs : List Edit). xs ++ edits_of word second) (filtered-twice (is_of word) (is_edited_by second) false (λ e same. ap (λ (w : WordPlace). list_any (is_of w) second) (word-is word e same) ∙ none) first)
          ∙ ap (λ (ys : List Edit). edits_of word first ++ ys) (none-passes (is_of word) second none)
          ∙ append-nil (edits_of word first)
          ∙ sym (ap (second_or_first (edits_of word first)) (none-passes (is_of word) second none))
    ] refl

pub joined-is : (first second old new : List Edit) → old ≡ filter (λ e. not (is_edited_by second e)) first ++ second
    → AreInOrder new → IsStableByKey word_of place_cmp old new → AreJoined first second new
joined-is first second old new is sorted stable = record {
  ordered = sorted;
  chosen = λ word. edits_of-stable old new stable word ∙ ap (edits_of word) is ∙ chosen first second word;
}
