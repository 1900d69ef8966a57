-- The front of a list that is taken apart.
use Rattle.std.proofs.Common.{◌≡◌, ◌-◌, ◌<◌, List, ◌∷◌, length, get_or, take, drop, sym, ap, ◌∙◌}
use Rattle.std.proofs.lemmas.List.{drop_more, take_rest}

pub at_front : {A : Type 0} (xs : List A) (first : A) → 0 < length xs → first ≡ get_or xs 0 first → xs ≡ first ∷ take (length xs - 1) (drop 1 xs)
at_front {A} xs first h e =
    drop_more xs 0 first h ∙ ap (λ (x : A). x ∷ drop 1 xs) (sym e) ∙ ap (λ (ys : List A). first ∷ ys) (sym (take_rest xs 1))
