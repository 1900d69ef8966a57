-- What holds of each item of a list, by its front and its end.
use Rattle.std.specs.Prelude.{List, [], ◌∷◌, ◌++◌}
use Rattle.std.specs.List.{AllByRecursion}

module _ {A : Type 0} (P : A → Type 0) where
  pub each-append : (xs ys : List A) → AllByRecursion P xs → AllByRecursion P ys → AllByRecursion P (xs ++ ys)
  each-append [] ys f g = g
  each-append (x ∷ xs) ys f g = (f.0, each-append xs ys f.1 g)

  pub each-more : (xs : List A) (x : A) → AllByRecursion P xs → P x → AllByRecursion P (xs ++ x ∷ [])
  each-more xs x f p = each-append xs (x ∷ []) f (p, tt)

  pub each-front : (xs ys : List A) → AllByRecursion P (xs ++ ys) → AllByRecursion P xs
  each-front [] ys f = tt
  each-front (x ∷ xs) ys f = (f.0, each-front xs ys f.1)

  pub each-rest : (xs ys : List A) → AllByRecursion P (xs ++ ys) → AllByRecursion P ys
  each-rest [] ys f = f
  each-rest (x ∷ xs) ys f = each-rest xs ys f.1
