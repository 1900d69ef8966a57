-- Files with an index of their external names.
use Rattle.std.proofs.Common.{◌≡◌, ℕ, zero, suc, ◌+◌, Bool, true, false, not, ◌||◌, cond, nat_lt, List, [], ◌∷◌, ◌++◌, length, map, Option, Some, None, is_some, unwrap_or, refl, sym, ap, ◌∙◌, subst, arith, slice_get}
use borrow.Author.Tests.{lt-ltb}
use lib.Dec.{leb-suc-suc}
use Rattle.std.specs.List.{position, position_or_len, prefix_len, list_any}
use Rattle.std.specs.Option.{option_map}
use Rattle.std.specs.Str.{bytes_eq}
use Rattle.std.proofs.lemmas.Bool.{true≢false}
use Rattle.data_layout.specs.declared.portfolio.FileArea.{FileArea}
use Rattle.data_layout.specs.declared.portfolio.FileUse.{FileUse}
use Rattle.file_uses.specs.Records.{with_place, new_file, with_record, length_in}
use Rattle.file_uses.specs.Table.{file_name, index_of, added_at}
use Rattle.file_uses.specs.declared.record.FileRecord.{FileRecord}

some_same : {A : Type 0} {x y : A} → Some x ≡ Some y → x ≡ y
some_same {A} {x} {y} e = ap (λ (o : Option A). unwrap_or o x) e

-- the place of a key
module _ {K : Type 0} (bytes : K → List ℕ) (test : List ℕ → Bool) where
  prefix_map : (ks : List K) → position_or_len (λ (k : K). test (bytes k)) ks ≡ position_or_len test (map bytes ks)
  prefix_map [] = refl
  prefix_map (k ∷ ks) = ap (λ (n : ℕ). cond (not (test (bytes k))) (1 + n) 0) (prefix_map ks)

  length_map : (ks : List K) → length ks ≡ length (map bytes ks)
  length_map [] = refl
  length_map (k ∷ ks) = ap (λ (n : ℕ). suc n) (length_map ks)

  any_map : (ks : List K) → list_any (λ (k : K). test (bytes k)) ks ≡ list_any test (map bytes ks)
  any_map [] = refl
  any_map (k ∷ ks) = ap (λ (b : Bool). test (bytes k) || b) (any_map ks)

  position_map : (ks : List K) → position (λ (k : K). test (bytes k)) ks ≡ position test (map bytes ks)
  position_map ks =
      ap (λ (n : ℕ). cond (nat_lt n (length ks)) (Some n) None) (prefix_map ks)
      ∙ ap (λ (m : ℕ). cond (nat_lt (position_or_len test (map bytes ks)) m) (Some (position_or_len test (map bytes ks))) None) (length_map ks)

one_more : (n : ℕ) → 1 + n ≡ suc n
one_more n = omega arith

suc_some : (b : Bool) (n : ℕ) → cond b (Some (1 + n)) None ≡ option_map (λ (k : ℕ). suc k) (cond b (Some n) None)
suc_some true n = ap (λ (k : ℕ). Some k) (one_more n)
suc_some false n = refl

position_step : (b : Bool) (n len : ℕ) → cond (nat_lt (cond (not b) (1 + n) 0) (suc len)) (Some (cond (not b) (1 + n) 0)) None ≡ cond b (Some 0) (option_map (λ (k : ℕ). suc k) (cond (nat_lt n len) (Some n) None))
position_step true n len = ap (λ (c : Bool). cond c (Some 0) None) (lt-ltb 0 (suc len) (omega arith))
position_step false n len =
    ap (λ (k : ℕ). cond (nat_lt k (suc len)) (Some (1 + n)) None) (one_more n)
    ∙ ap (λ (c : Bool). cond c (Some (1 + n)) None) (leb-suc-suc (suc n) len)
    ∙ suc_some (nat_lt n len) n

index_position : (files : List FileUse) (external : List ℕ) → position (bytes_eq external) (map file_name files) ≡ index_of files external
index_position [] external = refl
index_position (f ∷ fs) external =
    position_step (bytes_eq external f.external) (position_or_len (bytes_eq external) (map file_name fs)) (length (map file_name fs))
    ∙ ap (λ (o : Option ℕ). cond (bytes_eq external f.external) (Some 0) (option_map (λ (k : ℕ). suc k) o)) (index_position fs external)

pub found_index : {K : Type 0} (bytes : K → List ℕ) (ks : List K) (files : List FileUse) (external : List ℕ) → map bytes ks ≡ map file_name files
    → position (λ (k : K). bytes_eq external (bytes k)) ks ≡ index_of files external
found_index {K} bytes ks files external h =
    position_map bytes (bytes_eq external) ks ∙ ap (position (bytes_eq external)) h ∙ index_position files external

-- what stands at the place of a file
module _ (f : FileUse) (fs : List FileUse) (external : List ℕ) where
  length_step : (b : Bool) (o : Option ℕ) (i : ℕ) → ((j : ℕ) → o ≡ Some j → length_in fs external ≡ option_map (λ (x : FileUse). x.length) (slice_get fs j))
      → cond b (Some 0) (option_map (λ (k : ℕ). suc k) o) ≡ Some i → cond b (Some f.length) (length_in fs external) ≡ option_map (λ (x : FileUse). x.length) (slice_get (f ∷ fs) i)
  length_step true o i ih e = subst (λ (k : ℕ). Some f.length ≡ option_map (λ (x : FileUse). x.length) (slice_get (f ∷ fs) k)) (some_same e) refl
  length_step false None i ih e = absurd (true≢false (sym (ap is_some e)))
  length_step false (Some j) i ih e = subst (λ (k : ℕ). length_in fs external ≡ option_map (λ (x : FileUse). x.length) (slice_get (f ∷ fs) k)) (some_same e) (ih j refl)

pub length_found : (files : List FileUse) (external : List ℕ) (i : ℕ) → index_of files external ≡ Some i → length_in files external ≡ option_map (λ (x : FileUse). x.length) (slice_get files i)
length_found [] external i e = absurd (true≢false (sym (ap is_some e)))
length_found (f ∷ fs) external i e = length_step f fs external (bytes_eq external f.external) (index_of fs external) i (λ j h. length_found fs external j h) e

none_step : (f : FileUse) (fs : List FileUse) (external : List ℕ) (b : Bool) (o : Option ℕ) → (o ≡ None → length_in fs external ≡ None)
    → cond b (Some 0) (option_map (λ (k : ℕ). suc k) o) ≡ None → cond b (Some f.length) (length_in fs external) ≡ None
none_step f fs external true o ih e = absurd (true≢false (ap is_some e))
none_step f fs external false None ih e = ih refl
none_step f fs external false (Some j) ih e = absurd (true≢false (ap is_some e))

pub length_missing : (files : List FileUse) (external : List ℕ) → index_of files external ≡ None → length_in files external ≡ None
length_missing [] external e = refl
length_missing (f ∷ fs) external e = none_step f fs external (bytes_eq external f.external) (index_of fs external) (λ h. length_missing fs external h) e

-- a record area more
module _ (names : List ℕ → List ℕ) (r : FileRecord) where
  there_step : (f : FileUse) (fs : List FileUse) (b : Bool) (o : Option ℕ) (i : ℕ) → ((j : ℕ) → o ≡ Some j → with_record names fs r ≡ added_at fs j r.place)
      → cond b (Some 0) (option_map (λ (k : ℕ). suc k) o) ≡ Some i → cond b (with_place f r.place ∷ fs) (f ∷ with_record names fs r) ≡ added_at (f ∷ fs) i r.place
  there_step f fs true o i ih e = subst (λ (k : ℕ). with_place f r.place ∷ fs ≡ added_at (f ∷ fs) k r.place) (some_same e) refl
  there_step f fs false None i ih e = absurd (true≢false (sym (ap is_some e)))
  there_step f fs false (Some j) i ih e =
      subst (λ (k : ℕ). f ∷ with_record names fs r ≡ added_at (f ∷ fs) k r.place) (some_same e) (ap (λ (xs : List FileUse). f ∷ xs) (ih j refl))

  pub with_there : (files : List FileUse) (i : ℕ) → index_of files r.external ≡ Some i → with_record names files r ≡ added_at files i r.place
  with_there [] i e = absurd (true≢false (sym (ap is_some e)))
  with_there (f ∷ fs) i e = there_step f fs (bytes_eq r.external f.external) (index_of fs r.external) i (λ j h. with_there fs j h) e

  new_step : (f : FileUse) (fs : List FileUse) (b : Bool) (o : Option ℕ) → (o ≡ None → with_record names fs r ≡ fs ++ new_file names r ∷ [])
      → cond b (Some 0) (option_map (λ (k : ℕ). suc k) o) ≡ None → cond b (with_place f r.place ∷ fs) (f ∷ with_record names fs r) ≡ f ∷ (fs ++ new_file names r ∷ [])
  new_step f fs true o ih e = absurd (true≢false (ap is_some e))
  new_step f fs false None ih e = ap (λ (xs : List FileUse). f ∷ xs) (ih refl)
  new_step f fs false (Some j) ih e = absurd (true≢false (ap is_some e))

  pub with_new : (files : List FileUse) → index_of files r.external ≡ None → with_record names files r ≡ files ++ new_file names r ∷ []
  with_new [] e = refl
  with_new (f ∷ fs) e = new_step f fs (bytes_eq r.external f.external) (index_of fs r.external) (λ h. with_new fs h) e

pub names_stay : (files : List FileUse) (i : ℕ) (place : FileArea) → map file_name (added_at files i place) ≡ map file_name files
names_stay [] i place = refl
names_stay (f ∷ fs) zero place = refl
names_stay (f ∷ fs) (suc i) place = ap (λ (xs : List (List ℕ)). f.external ∷ xs) (names_stay fs i place)

-- a file more
any_step : (b c : Bool) (o : Option ℕ) → (o ≡ None → c ≡ false) → cond b (Some 0) (option_map (λ (k : ℕ). suc k) o) ≡ None → (b || c) ≡ false
any_step true c o ih e = absurd (true≢false (ap is_some e))
any_step false c None ih e = ih refl
any_step false c (Some j) ih e = absurd (true≢false (ap is_some e))

none_there : (files : List FileUse) (external : List ℕ) → index_of files external ≡ None → list_any (bytes_eq external) (map file_name files) ≡ false
none_there [] external e = refl
none_there (f ∷ fs) external e =
    any_step (bytes_eq external f.external) (list_any (bytes_eq external) (map file_name fs)) (index_of fs external) (λ h. none_there fs external h) e

map_more : {K X : Type 0} (bytes : K → X) (ks : List K) (k : K) → map bytes (ks ++ k ∷ []) ≡ map bytes ks ++ bytes k ∷ []
map_more {K} {X} bytes [] k = refl
map_more {K} {X} bytes (x ∷ ks) k = ap (λ (xs : List X). bytes x ∷ xs) (map_more bytes ks k)

pub keys_more : {K : Type 0} (bytes : K → List ℕ) (ks : List K) (k : K) (files : List FileUse) (file : FileUse)
    → map bytes ks ≡ map file_name files → bytes k ≡ file.external → index_of files file.external ≡ None
    → map bytes (cond (list_any (λ (x : K). bytes_eq (bytes k) (bytes x)) ks) ks (ks ++ k ∷ [])) ≡ map file_name (files ++ file ∷ [])
keys_more {K} bytes ks k files file h e none =
    let absent : list_any (λ (x : K). bytes_eq (bytes k) (bytes x)) ks ≡ false
    = any_map bytes (bytes_eq (bytes k)) ks ∙ ap (list_any (bytes_eq (bytes k))) h ∙ ap (λ (n : List ℕ). list_any (bytes_eq n) (map file_name files)) e ∙ none_there files file.external none in
    ap (λ (b : Bool). map bytes (cond b ks (ks ++ k ∷ []))) absent
    ∙ map_more bytes ks k
    ∙ ap (λ (xs : List (List ℕ)). xs ++ bytes k ∷ []) h
    ∙ ap (λ (n : List ℕ). map file_name files ++ n ∷ []) e
    ∙ sym (map_more file_name files file)
