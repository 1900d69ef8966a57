-- A map of names with one name more.
use Rattle.std.proofs.Common.{◌≡◌, ℕ, Bool, true, false, cond, List, refl, ap, ◌∙◌, Option, Some, None, if◌then◌else◌}
use Rattle.std.specs.Option.{is_some}
use Rattle.std.specs.Ordering.{nat_cmp, is_eq}
use Rattle.std.specs.Cmp.Lexicographic.{slice_cmp}
use Rattle.std.specs.Str.{bytes_eq}
use Rattle.std.specs.Map.{lookup}
use Rattle.std.specs.BTreeMap.{insert_entry}
use Rattle.std.proofs.lemmas.Map.Text.{is_eq-slice_cmp}
use Rattle.std.proofs.lemmas.Slice.Eq.{bytes_eq-Decides}
use Rattle.data_layout.proofs.InIndex.{lookup-insert, are_alike, are_exact, flipped}
use Rattle.program_uses.specs.Names.{wrong_of, once_more}

again : (o : Option Bool) → wrong_of (Some (is_some o)) ≡ once_more (wrong_of o)
again None = refl
again (Some false) = refl
again (Some true) = refl

chosen : (b : Bool) (more : Bool) (others : Option Bool) → wrong_of (cond b (Some more) others) ≡ (if b then wrong_of (Some more) else wrong_of others)
chosen true more others = refl
chosen false more others = refl

module _ {K : Type 0} (es : List (K × Bool)) (bytes : K → List ℕ) (key : K) (name other : List ℕ) (more : Bool) where
  -- what stands for a name in the map
  abbrev held : List ℕ → Option Bool
  held x = lookup (λ (k : K). is_eq (slice_cmp nat_cmp x (bytes k))) es

  pub one-more : bytes key ≡ name → more ≡ is_some (held name)
      → wrong_of (lookup (λ (k : K). is_eq (slice_cmp nat_cmp other (bytes k))) (insert_entry (λ (a b : K). slice_cmp nat_cmp (bytes a) (bytes b)) es key more))
      ≡ (if bytes_eq name other then once_more (wrong_of (held other)) else wrong_of (held other))
  one-more is stands =
      ap wrong_of (lookup-insert (λ (a b : K). slice_cmp nat_cmp (bytes a) (bytes b)) (λ (k : K). is_eq (slice_cmp nat_cmp other (bytes k)))
      (λ x y. are_alike other (bytes x) (bytes y)) (λ x y. are_exact other (bytes x) (bytes y)) es key more)
      ∙ ap (λ (b : Bool). wrong_of (cond b (Some more) (held other))) (ap (λ (xs : List ℕ). is_eq (slice_cmp nat_cmp other xs)) is ∙ is_eq-slice_cmp other name ∙ flipped other name)
      ∙ chosen (bytes_eq name other) more (held other)
      ∙ elim (bytes_eq name other) as (λ (b : Bool). bytes_eq name other ≡ b → (if b then wrong_of (Some more) else wrong_of (held other)) ≡ (if b then once_more (wrong_of (held other)) else wrong_of (held other))) [
        | true ↦ λ e. ap (λ (b : Bool). wrong_of (Some b)) stands ∙ again (held name) ∙ ap (λ (x : List ℕ). once_more (wrong_of (held x))) ((bytes_eq-Decides name other).0 e)
        | false ↦ λ e. refl
      ] refl
