-- The first name of a set is the least.
use Rattle.std.proofs.Common.{◌≡◌, ℕ, Bool, true, false, List, sym, ap, ◌∙◌, subst}
use Rattle.std.specs.List.{All, list_any}
use Rattle.std.specs.Ordering.{nat_cmp, is_eq, is_gt}
use Rattle.std.specs.Cmp.Lexicographic.{slice_cmp}
use Rattle.std.proofs.lemmas.List.Folds.{Any-from_list_any}
use Rattle.std.proofs.lemmas.Map.Text.{is_eq-slice_cmp}
use Rattle.std.proofs.lemmas.Slice.Eq.{bytes_eq-Decides}

equal_bytes : (xs ys : List ℕ) → is_eq (slice_cmp nat_cmp xs ys) ≡ true → xs ≡ ys
equal_bytes xs ys h = (bytes_eq-Decides xs ys).0 (sym (is_eq-slice_cmp xs ys) ∙ h)

abbrev IsBelow : {K : Type 0} → (K → List ℕ) → K → K → Type 0
IsBelow bytes k x = is_gt (slice_cmp nat_cmp (bytes k) (bytes x)) ≡ false

pub least_of : {K : Type 0} (bytes : K → List ℕ) (ks : List K) (k : K) (other : List ℕ) → All (λ (x : K). is_gt (slice_cmp nat_cmp (bytes k) (bytes x)) ≡ false) ks
    → list_any (λ (x : K). is_eq (slice_cmp nat_cmp other (bytes x))) ks ≡ true → is_gt (slice_cmp nat_cmp (bytes k) other) ≡ false
least_of {K} bytes ks k other all any =
    let found = Any-from_list_any (λ (x : K). is_eq (slice_cmp nat_cmp other (bytes x))) ks any in
    let here : IsBelow bytes k found.1 = subst (λ (x : K). IsBelow bytes k x) found.3 (all found.0 found.1 found.2) in
    subst (λ (t : List ℕ). is_gt (slice_cmp nat_cmp (bytes k) t) ≡ false) (sym (equal_bytes other (bytes found.1) found.4)) here
