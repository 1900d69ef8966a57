-- Names and records one list after another.
use Rattle.std.proofs.Common.{◌≡◌, ℕ, Bool, true, false, cond, List, [], ◌∷◌, ◌++◌, Option, Some, refl, append_assoc, Bor}
use Rattle.std.specs.Option.{option_map}
use Rattle.name_tables.specs.Names.{Known, with_name}
use Rattle.file_uses.specs.Names.{with_names}

pub with_names_append : (names : Known) (xs ys : List (List ℕ)) → with_names names (xs ++ ys) ≡ with_names (with_names names xs) ys
with_names_append names [] ys = refl
with_names_append names (x ∷ xs) ys = with_names_append (with_name names x) xs ys

pub append_again : {A : Type 0} (xs ys zs : List A) → (xs ++ ys) ++ zs ≡ xs ++ (ys ++ zs)
append_again {A} xs ys zs = append_assoc xs ys zs

pub value_shown : (b : Bool) (x : Bor (List ℕ)) (o : Option (Bor (List ℕ)))
    → option_map (λ (name : Bor (List ℕ)). name.now) (cond b (Some x) o) ≡ cond b (Some x.now) (option_map (λ (name : Bor (List ℕ)). name.now) o)
value_shown true x o = refl
value_shown false x o = refl
