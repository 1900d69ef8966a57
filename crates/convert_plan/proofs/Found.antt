-- What the element of a list that a position names adds.
use Rattle.std.proofs.Common.{◌≡◌, ℕ, ◌<◌, ◌≤◌, List, [], ◌++◌, length, get_or, Option, Some, None, refl, sym, ap, ◌∙◌}
use Rattle.std.specs.List.{slice_get}
use Rattle.std.proofs.lemmas.Option.{slice_get_read, slice_get_past}
use Rattle.std.proofs.lemmas.List.{append-nil}

pub adds_found : {X L : Type 0} (f : Option X → List L) (xs : List X) (i : ℕ) (x : X) (before after : List L) →
    i < length xs → x ≡ get_or xs i x → after ≡ before ++ f (Some x) → after ≡ before ++ f (slice_get xs i)
adds_found f xs i x before after low is e =
    e ∙ ap (λ found. before ++ f found) (sym (slice_get_read xs (length xs) i x refl low is))

pub adds_none : {X L : Type 0} (f : Option X → List L) (xs : List X) (i : ℕ) (before : List L) →
    length xs ≤ i → f None ≡ [] → before ≡ before ++ f (slice_get xs i)
adds_none f xs i before past none =
    sym (ap (λ found. before ++ f found) (slice_get_past xs i past) ∙ ap (λ added. before ++ added) none ∙ append-nil before)
