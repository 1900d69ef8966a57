-- Keys of texts in order have the same texts among them.
use Rattle.std.proofs.Common.{◌≡◌, ℕ, Bool, true, false, ◌||◌, ◌&&◌, List, [], ◌∷◌, ◌++◌, refl, ap, sym, ◌∙◌}
use Rattle.std.specs.List.{list_any}
use Rattle.std.specs.Str.{bytes_eq}
use Rattle.std.specs.declared.cmp.Ordering.{Ordering}
use Rattle.std.specs.declared.cmp.Ordering.TheVariants.{Less, Equal, Greater}
use Rattle.std.specs.Ordering.{nat_cmp, is_eq, match_ordering, ordering_reverse}
use Rattle.std.specs.Cmp.Lexicographic.{slice_cmp, texts_ties}
use Rattle.std.specs.BTreeMap.{is_at}
use Rattle.std.specs.BTreeSet.{insert_key}
use Rattle.std.proofs.lemmas.Cmp.{nat_list_cmp_total}
use Rattle.std.proofs.lemmas.List.Folds.{list_any-append}
use Rattle.y2k_base.specs.declared.word.Word.{Word}
use Rattle.cond_reader.specs.declared.symbol.Symbol.{Symbol}
use Rattle.cond_reader.specs.declared.symbol.Symbol.TheVariants as s
use Rattle.cond_reader.specs.declared.kind.Kind.{Kind}
use Rattle.cond_reader.specs.Symbols.{symbol_of, same_symbol}
use Rattle.cond_reader.specs.Kinds.{is_among, kind_of, IsIndexOf}

or-twice : (a b : Bool) → (a || b) ≡ (a || (a || b))
or-twice true b = refl
or-twice false b = refl

or-turned : (a b c : Bool) → (a || (b || c)) ≡ (b || (a || c))
or-turned true true c = refl
or-turned true false c = refl
or-turned false b c = refl

or-none : (a b : Bool) → (a || b) ≡ (b || (a || false))
or-none true true = refl
or-none true false = refl
or-none false true = refl
or-none false false = refl

module _ {K : Type 0} (cmp : K → K → Ordering) (p : K → Bool) (same : (k x : K) → cmp k x ≡ Equal → p k ≡ p x) where
  any-inserted : (xs : List K) (k : K) → list_any p (insert_key cmp xs k) ≡ (p k || list_any p xs)
  any-inserted [] k = refl
  any-inserted (x ∷ xs) k =
      elim (cmp k x) as (λ (o : Ordering). cmp k x ≡ o → list_any p (match_ordering o (k ∷ x ∷ xs) (x ∷ xs) (x ∷ insert_key cmp xs k)) ≡ (p k || (p x || list_any p xs))) [
        | Less ↦ λ e. refl
        | Equal ↦ λ e. or-twice (p x) (list_any p xs) ∙ ap (λ (b : Bool). b || (p x || list_any p xs)) (sym (same k x e))
        | Greater ↦ λ e. ap (λ (b : Bool). p x || b) (any-inserted xs k) ∙ or-turned (p x) (p k) (list_any p xs)
      ] refl

alike : (text a b : List ℕ) → slice_cmp nat_cmp a b ≡ Equal → slice_cmp nat_cmp text a ≡ slice_cmp nat_cmp text b
alike text a b e =
    nat_list_cmp_total.antisymm text a ∙ ap ordering_reverse (nat_list_cmp_total.congr a b text e) ∙ sym (nat_list_cmp_total.antisymm text b)

pub index-more : {K : Type 0} (bytes : K → List ℕ) (keys : List K) (names : List (List ℕ)) (key : K) → IsIndexOf keys bytes names
    → IsIndexOf (insert_key (λ x y. slice_cmp nat_cmp (bytes x) (bytes y)) keys key) bytes (names ++ bytes key ∷ [])
index-more bytes keys names key index text =
    any-inserted (λ x y. slice_cmp nat_cmp (bytes x) (bytes y)) (is_at (λ k. slice_cmp nat_cmp text (bytes k)))
    (λ k x e. ap is_eq (alike text (bytes k) (bytes x) e)) keys key
    ∙ ap (λ (b : Bool). is_eq (slice_cmp nat_cmp text (bytes key)) || b) (index text)
    ∙ ap (λ (b : Bool). b || is_among names text) (sym (texts_ties text (bytes key)))
    ∙ or-none (bytes_eq text (bytes key)) (is_among names text)
    ∙ sym (list_any-append (bytes_eq text) names (bytes key ∷ []))

pub kind-is : (names : List (List ℕ)) (word : Word) (symbol : Symbol) (is_name is_named : Bool) → symbol ≡ symbol_of word → is_name ≡ same_symbol symbol s.Name
    → is_named ≡ (is_name && is_among names word.text) → ◌≡◌ {A = Kind} (record { symbol = symbol; is_named = is_named }) (kind_of names word)
unfolding kind_of
kind-is names word symbol is_name is_named a b c =
    let test : is_named ≡ (same_symbol (symbol_of word) s.Name && is_among names word.text) =
    c ∙ ap (λ (x : Bool). x && is_among names word.text) (b ∙ ap (λ (x : Symbol). same_symbol x s.Name) a) in
    ap (λ (x : Symbol). let k : Kind = record { symbol = x; is_named = is_named } in k) a
    ∙ ap (λ (x : Bool). let k : Kind = record { symbol = symbol_of word; is_named = x } in k) test
