-- The files of a map in memory, by their names.
use Rattle.std.proofs.Common.{◌≡◌, ℕ, Bool, true, false, cond, List, [], ◌∷◌, refl, sym, ap, ◌∙◌, Option, Some, None, unwrap_or, String, Vec, string_bytes}
use Rattle.std.specs.Option.{option_map}
use Rattle.std.specs.Ordering.{nat_cmp, eq_by_cmp, is_eq}
use Rattle.std.specs.Cmp.Lexicographic.{slice_cmp}
use Rattle.std.proofs.lemmas.Cmp.{nat_list_cmp_total}
use Rattle.std.specs.Str.{bytes_eq}
use Rattle.std.specs.String.{string_cmp}
use Rattle.std.specs.Map.{lookup}
use Rattle.std.specs.BTreeMap.{BTreeMap, UpdatesBy, get_by_text, is_at}
use Rattle.std.specs.FinMap.{get, insert, get-empty, get-insert, same_map, slice_cmp-IsAntisymmetric, nat_cmp-IsAntisymmetric}
use Rattle.std.proofs.lemmas.Map.Text.{is_eq-slice_cmp, btree_map_updates_text}
use Rattle.std.proofs.lemmas.Slice.Eq.{bytes_eq-Decides}
use Rattle.std.proofs.lemmas.Bool.{false_from_ne_true}
use Rattle.shelf.specs.Contents.{Files, bytes_of}
use Rattle.shelf.specs.Memory.{held, held_by}

abbrev pub same_name : List ℕ → List ℕ → Bool
same_name p q = eq_by_cmp (slice_cmp nat_cmp) p q

at : (files : Files) (k : List ℕ) (v : List ℕ) (q : List ℕ) → get (insert files k v) q ≡ cond (same_name q k) (Some v) (get files q)
at files k v q = get-insert nat_list_cmp_total files k v q

equal_maps : (m n : Files) → ((q : List ℕ) → get m q ≡ get n q) → m ≡ n
equal_maps m n h = same_map nat_list_cmp_total (slice_cmp-IsAntisymmetric nat_cmp-IsAntisymmetric) m n h

-- the test of two names does not depend on their order
turned : (p q : List ℕ) → bytes_eq p q ≡ bytes_eq q p
turned p q =
    elim (bytes_eq p q) as (λ b. bytes_eq p q ≡ b → b ≡ bytes_eq q p) [
      | true ↦ λ e. sym ((bytes_eq-Decides q p).1 (sym ((bytes_eq-Decides p q).0 e)))
      | false ↦ λ e. sym (false_from_ne_true (bytes_eq q p) (λ f. let g : true ≡ false = sym ((bytes_eq-Decides p q).1 (sym ((bytes_eq-Decides q p).0 f))) ∙ e in cc))
    ] refl

module _ {Y : Type 0} where
  -- the bytes of the value that a choice gives
  chosen : (b : Bool) (v : Vec ℕ Y) (o : Option (Vec ℕ Y)) (r : Option (List ℕ)) → r ≡ option_map (λ (w : Vec ℕ Y). w.items) o → cond b (Some v.items) r ≡ option_map (λ (w : Vec ℕ Y). w.items) (cond b (Some v) o)
  chosen true v o r e = refl
  chosen false v o r e = e

module _ {X Y : Type 0} where
  get-held_by : (entries : List (String X × Vec ℕ Y)) (q : List ℕ) → get (held_by entries) q ≡ option_map (λ (w : Vec ℕ Y). w.items) (lookup (is_at (λ (k : String X). slice_cmp nat_cmp q (string_bytes k))) entries)
  get-held_by [] q = get-empty (slice_cmp nat_cmp) q
  get-held_by (e ∷ es) q =
      at (held_by es) (string_bytes e.0) e.1.items q
      ∙ chosen (is_eq (slice_cmp nat_cmp q (string_bytes e.0))) e.1 (lookup (is_at (λ (k : String X). slice_cmp nat_cmp q (string_bytes k))) es) _ (get-held_by es q)

  -- a file is held where the map has an entry of its name
  pub get-held : (m : BTreeMap (String X) (Vec ℕ Y)) (q : List ℕ) → get (held m) q ≡ option_map (λ (w : Vec ℕ Y). w.items) (get_by_text m q)
  get-held m q = get-held_by m.entries q

  -- the map with an entry set holds the files with that file set
  pub held-set : (name : List ℕ) (m n : BTreeMap (String X) (Vec ℕ Y)) (v : Vec ℕ Y) → UpdatesBy string_cmp (λ (k : String X). slice_cmp nat_cmp name (string_bytes k)) m n (Some v) → held n ≡ insert (held m) name v.items
  held-set name m n v updates = equal_maps (held n) (insert (held m) name v.items) (λ q.
      get-held n q
      ∙ ap (option_map (λ (w : Vec ℕ Y). w.items)) (btree_map_updates_text name m n (Some v) updates q)
      ∙ sym (chosen (bytes_eq name q) v (get_by_text m q) (get (held m) q) (get-held m q))
      ∙ ap (λ b. cond b (Some v.items) (get (held m) q)) (turned name q ∙ sym (is_eq-slice_cmp q name))
      ∙ sym (at (held m) name v.items q))

-- to set a file to the bytes that it has changes nothing
pub insert_same : (files : Files) (name bytes : List ℕ) → get files name ≡ Some bytes → insert files name bytes ≡ files
insert_same files name bytes here = equal_maps (insert files name bytes) files (λ q.
    at files name bytes q
    ∙ elim (same_name q name) as (λ b. same_name q name ≡ b → cond b (Some bytes) (get files q) ≡ get files q) [
      | true ↦ λ e. sym (ap (get files) ((bytes_eq-Decides q name).0 (sym (is_eq-slice_cmp q name) ∙ e)) ∙ here)
      | false ↦ λ e. refl
    ] refl)

pub bytes_of-here : (files : Files) (name bytes : List ℕ) → get files name ≡ Some bytes → bytes_of files name ≡ bytes
bytes_of-here files name bytes here = ap (λ (o : Option (List ℕ)). unwrap_or o []) here

pub bytes_of-missing : (files : Files) (name : List ℕ) → get files name ≡ None → bytes_of files name ≡ []
bytes_of-missing files name missing = ap (λ (o : Option (List ℕ)). unwrap_or o []) missing
