-- Files of which one is set.
use Rattle.std.proofs.Common.{◌≡◌, ℕ, Bool, true, false, cond, List, [], refl, sym, ap, ◌∙◌, Option, Some, unwrap_or}
use Rattle.std.specs.Ordering.{nat_cmp, eq_by_cmp}
use Rattle.std.specs.Cmp.Lexicographic.{slice_cmp}
use Rattle.std.proofs.lemmas.Cmp.{nat_list_cmp_total}
use Rattle.std.specs.FinMap.{get, insert, get-insert, same_map, slice_cmp-IsAntisymmetric, nat_cmp-IsAntisymmetric}
use Rattle.std.proofs.lemmas.Map.Text.{is_eq-slice_cmp}
use Rattle.std.proofs.lemmas.Slice.Eq.{bytes_eq-Decides}
use Rattle.shelf.specs.Contents.{Files, bytes_of}

abbrev same_name : List ℕ → List ℕ → Bool
same_name p q = eq_by_cmp (slice_cmp nat_cmp) p q

at : (files : Files) (k v q : List ℕ) → get (insert files k v) q ≡ cond (same_name q k) (Some v) (get files q)
at files k v q = get-insert nat_list_cmp_total files k v q

pub get-here : (files : Files) (k v : List ℕ) → get (insert files k v) k ≡ Some v
get-here files k v = at files k v k ∙ ap (λ b. cond b (Some v) (get files k)) (is_eq-slice_cmp k k ∙ (bytes_eq-Decides k k).1 refl)

pub get-other : (files : Files) (k v q : List ℕ) → (q ≡ k → ⊥) → get (insert files k v) q ≡ get files q
get-other files k v q other =
    at files k v q
    ∙ elim (same_name q k) as (λ b. same_name q k ≡ b → cond b (Some v) (get files q) ≡ get files q) [
      | true ↦ λ e. absurd (other ((bytes_eq-Decides q k).0 (sym (is_eq-slice_cmp q k) ∙ e)))
      | false ↦ λ e. refl
    ] refl

-- a file that is set twice has what it was set to last
pub insert_twice : (files : Files) (k v w : List ℕ) → insert (insert files k v) k w ≡ insert files k w
insert_twice files k v w = same_map nat_list_cmp_total (slice_cmp-IsAntisymmetric nat_cmp-IsAntisymmetric) (insert (insert files k v) k w) (insert files k w) (λ q.
    at (insert files k v) k w q
    ∙ elim (same_name q k) as (λ b. same_name q k ≡ b → cond b (Some w) (get (insert files k v) q) ≡ cond b (Some w) (get files q)) [
      | true ↦ λ e. refl
      | false ↦ λ e. at files k v q ∙ ap (λ b. cond b (Some v) (get files q)) e
    ] refl
    ∙ sym (at files k w q))

pub bytes_of-set : (files : Files) (k v : List ℕ) → bytes_of (insert files k v) k ≡ v
bytes_of-set files k v = ap (λ (o : Option (List ℕ)). unwrap_or o []) (get-here files k v)

pub bytes_of-other : (files : Files) (k v q : List ℕ) → (q ≡ k → ⊥) → bytes_of (insert files k v) q ≡ bytes_of files q
bytes_of-other files k v q other = ap (λ (o : Option (List ℕ)). unwrap_or o []) (get-other files k v q other)
