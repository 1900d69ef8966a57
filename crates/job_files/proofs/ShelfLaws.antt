-- Files that are made and then appended to.
use Rattle.std.proofs.Common.{◌≡◌, inl, inr, ◌++◌, ◌≤◌, ◌-◌, ℕ, Bool, true, false, cond, List, [], length, take, refl, sym, ap, ◌∙◌, Option, Some, None, unwrap_or, arith}
use Rattle.std.specs.Option.{option_map}
use Rattle.std.specs.Ordering.{nat_cmp, eq_by_cmp}
use Rattle.std.specs.Cmp.Lexicographic.{slice_cmp}
use Rattle.std.proofs.lemmas.Cmp.{nat_list_cmp_total}
use Rattle.std.specs.FinMap.{get, insert, get-insert, same_map, slice_cmp-IsAntisymmetric, nat_cmp-IsAntisymmetric}
use Rattle.std.proofs.lemmas.Map.Text.{is_eq-slice_cmp}
use Rattle.std.proofs.lemmas.Slice.Eq.{bytes_eq-Decides}
use Rattle.shelf.specs.Contents.{Files, appended, emptied, MayHaveAppended}
use Rattle.job_files.specs.Written.{with_bytes, MayHaveBegun}

abbrev same_name : List ℕ → List ℕ → Bool
same_name p q = eq_by_cmp (slice_cmp nat_cmp) p q

at : (files : Files) (k v q : List ℕ) → get (insert files k v) q ≡ cond (same_name q k) (Some v) (get files q)
at files k v q = get-insert nat_list_cmp_total files k v q

here : (files : Files) (k v : List ℕ) → get (insert files k v) k ≡ Some v
here files k v = at files k v k ∙ ap (λ b. cond b (Some v) (get files k)) (is_eq-slice_cmp k k ∙ (bytes_eq-Decides k k).1 refl)

-- a file that is set twice has what it was set to last
twice : (files : Files) (k v w : List ℕ) → insert (insert files k v) k w ≡ insert files k w
twice files k v w = same_map nat_list_cmp_total (slice_cmp-IsAntisymmetric nat_cmp-IsAntisymmetric) (insert (insert files k v) k w) (insert files k w) (λ q.
    at (insert files k v) k w q
    ∙ elim (same_name q k) as (λ b. same_name q k ≡ b → cond b (Some w) (get (insert files k v) q) ≡ cond b (Some w) (get files q)) [
      | true ↦ λ e. refl
      | false ↦ λ e. at files k v q ∙ ap (λ b. cond b (Some v) (get files q)) e
    ] refl
    ∙ sym (at files k w q))

made_in : (name piece : List ℕ) (files : Files) → appended name piece (emptied name files) ≡ with_bytes name piece files
made_in name piece files =
    ap (λ (o : Option (List ℕ)). insert (insert files name []) name (unwrap_or o [] ++ piece)) (here files name []) ∙ twice files name [] piece

made : (name piece : List ℕ) (told : Option Files) → option_map (appended name piece) (option_map (emptied name) told) ≡ option_map (with_bytes name piece) told
made name piece None = refl
made name piece (Some files) = ap (λ (f : Files). Some f) (made_in name piece files)

-- a file that is made and then appended to has the piece
pub written : (name piece : List ℕ) (before mid after : Option Files) → mid ≡ option_map (emptied name) before → after ≡ option_map (appended name piece) mid
    → after ≡ option_map (with_bytes name piece) before
written name piece before mid after m a = a ∙ ap (λ (t : Option Files). option_map (appended name piece) t) m ∙ made name piece before

empty_front : (name piece : List ℕ) (before : Option Files) → option_map (emptied name) before ≡ option_map (with_bytes name (take 0 piece)) before
empty_front name piece None = refl
empty_front name piece (Some files) = refl

-- a file that is made and then perhaps appended to may have begun
pub begun : (name piece : List ℕ) (before mid after : Option Files) → mid ≡ option_map (emptied name) before → MayHaveAppended name piece mid after
    → MayHaveBegun name piece before after
begun name piece before mid after m (inl same) =
    let low : 0 ≤ length piece - 1 = omega arith in
    inr (0, low, same ∙ m ∙ empty_front name piece before)
begun name piece before mid after m (inr (n, below, a)) =
    let low : n ≤ length piece - 1 = omega (arith, below) in
    inr (n, low, written name (take n piece) before mid after m a)
