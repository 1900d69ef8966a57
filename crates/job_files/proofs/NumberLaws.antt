-- Files by their numbers, and disks of which one is set.
use Rattle.std.proofs.Common.{◌≡◌, ◌≢◌, ◌⊎◌, inl, inr, ◌+◌, ◌<◌, ℕ, zero, suc, Bool, true, false, cond, List, [], ◌∷◌, length, slice_get, slice_set, refl, sym, ap, ◌∙◌, subst, Option, Some, None, arith}
use Rattle.std.specs.Option.{option_map}
use Rattle.std.specs.Str.{bytes_eq}
use Rattle.std.proofs.lemmas.Slice.Eq.{bytes_eq-Decides}
use Rattle.data_layout.specs.declared.portfolio.FileUse.{FileUse}
use Rattle.name_tables.specs.Table.{holds_nothing, with_value}
use Rattle.program_meaning.specs.Files.{Disk, Closed, disk_at}
use Rattle.seq_files.specs.Disks.{filled_disk}
use Rattle.job_files.specs.Numbers.{numbers_from, number_of, external_of, AreApart}
use Rattle.job_files.specs.Loaded.{Contents, with_bytes, held_disk, disk_in, disks_in, size_at, size_of, with_disk}

abbrev Has : List FileUse → ℕ → List ℕ → Type 0
Has files i key = option_map external_of (slice_get files i) ≡ Some key

some_is : {A : Type 0} (x y : A) → Some x ≡ Some y → x ≡ y
some_is x y e = cc

no_some : {A : Type 0} {B : Type 0} (x : A) → None ≡ Some x → B
no_some x e = cc

abbrev Found : (List ℕ → Option ℕ) → ℕ → List FileUse → List ℕ → ℕ → Type 0
Found before k files key n = (before key ≡ Some n) ⊎ ((i : ℕ) × (n ≡ k + i) × Has files i key)

found_here : (before : List ℕ → Option ℕ) (k : ℕ) (f : FileUse) (fs : List FileUse) (key : List ℕ) (n : ℕ) (b : Bool) → bytes_eq f.external key ≡ b
    → cond b (Some k) (before key) ≡ Some n → Found before k (f ∷ fs) key n
found_here before k f fs key n true e is =
    let same : f.external ≡ key = (bytes_eq-Decides f.external key).0 e in
    let number : n ≡ k = sym (some_is k n is) in
    let next : n ≡ k + 0 = omega (arith, number) in
    inr (0, next, ap (λ (x : List ℕ). Some x) same)
found_here before k f fs key n false e is = inl is

found_later : (before : List ℕ → Option ℕ) (k : ℕ) (f : FileUse) (fs : List FileUse) (key : List ℕ) (n : ℕ) → Found (with_value before f.external k) (k + 1) fs key n
    → Found before k (f ∷ fs) key n
found_later before k f fs key n (inl is) = found_here before k f fs key n (bytes_eq f.external key) refl is
found_later before k f fs key n (inr (i, is, has)) =
    let next : n ≡ k + suc i = omega (arith, is) in
    inr (suc i, next, has)

numbers_found : (before : List ℕ → Option ℕ) (k : ℕ) (files : List FileUse) (key : List ℕ) (n : ℕ) → numbers_from before k files key ≡ Some n → Found before k files key n
numbers_found before k [] key n e = inl e
numbers_found before k (f ∷ fs) key n e = found_later before k f fs key n (numbers_found (with_value before f.external k) (k + 1) fs key n e)

found_own : (files : List FileUse) (key : List ℕ) (n : ℕ) → Found holds_nothing 0 files key n → Has files n key
found_own files key n (inl e) = no_some n e
found_own files key n (inr (i, is, has)) =
    let same : i ≡ n = omega (arith, is) in
    subst (λ (j : ℕ). Has files j key) same has

-- the file of a number that was found has the name
pub is_own : (files : List FileUse) (key : List ℕ) (n : ℕ) → number_of files key ≡ Some n → Has files n key
is_own files key n e = found_own files key n (numbers_found holds_nothing 0 files key n e)

pub is_within : (files : List FileUse) (key : List ℕ) (n : ℕ) → Has files n key → n < length files
is_within [] key n e = no_some key e
is_within (f ∷ fs) key zero e = omega arith
is_within (f ∷ fs) key (suc n) e =
    let below : n < length fs = is_within fs key n e in
    omega (arith, below)

other_value : (contents : Contents) (key v external : List ℕ) → external ≢ key → with_value contents key v external ≡ contents external
other_value contents key v external other =
    elim (bytes_eq key external) as (λ b. bytes_eq key external ≡ b → cond b (Some v) (contents external) ≡ contents external) [
      | true ↦ λ e. absurd (other (sym ((bytes_eq-Decides key external).0 e)))
      | false ↦ λ e. refl
    ] refl

own_value : (contents : Contents) (key v external : List ℕ) → external ≡ key → with_value contents key v external ≡ Some v
own_value contents key v external e = ap (λ (b : Bool). cond b (Some v) (contents external)) ((bytes_eq-Decides key external).1 (sym e))

disk_other : (contents : Contents) (key v : List ℕ) (f : FileUse) → f.external ≢ key → disk_in contents f ≡ disk_in (with_value contents key v) f
disk_other contents key v f other = ap (λ (o : Option (List ℕ)). held_disk f.length o) (sym (other_value contents key v f.external other))

others : (contents : Contents) (key v : List ℕ) (files : List FileUse) → ((i : ℕ) → Has files i key → ⊥) → disks_in contents files ≡ disks_in (with_value contents key v) files
others contents key v [] none = refl
others contents key v (f ∷ fs) none =
    ap (λ (d : Disk). d ∷ disks_in contents fs) (disk_other contents key v f (λ e. none 0 (ap (λ (x : List ℕ). Some x) e)))
    ∙ ap (λ (ds : List Disk). disk_in (with_value contents key v) f ∷ ds) (others contents key v fs (λ i has. none (suc i) has))

size_in : (size : ℕ) (o : Option (List ℕ)) → (held_disk size o).length ≡ size
size_in size None = refl
size_in size (Some bs) = refl

closed_in : (size : ℕ) (o : Option (List ℕ)) → (held_disk size o).opening ≡ Closed
closed_in size None = refl
closed_in size (Some bs) = refl

no_suc : {B : Type 0} (n : ℕ) → suc n ≡ 0 → B
no_suc n e = absurd (omega (arith, e))

-- the file of that name alone is set
pub set_here : (contents : Contents) (key bs : List ℕ) (files : List FileUse) (n : ℕ) → Has files n key → ((j : ℕ) → Has files j key → j ≡ n)
    → slice_set (disks_in contents files) n (filled_disk (disk_at (disks_in contents files) n).length bs) ≡ disks_in (with_value contents key bs) files
set_here contents key bs [] n has only = no_some key has
set_here contents key bs (f ∷ fs) zero has only =
    ap (λ (size : ℕ). filled_disk size bs ∷ disks_in contents fs) (size_in f.length (contents f.external))
    ∙ ap (λ (o : Option (List ℕ)). held_disk f.length o ∷ disks_in contents fs) (sym (own_value contents key bs f.external (some_is f.external key has)))
    ∙ ap (λ (ds : List Disk). disk_in (with_value contents key bs) f ∷ ds) (others contents key bs fs (λ i h. no_suc i (only (suc i) h)))
set_here contents key bs (f ∷ fs) (suc n) has only =
    ap (λ (d : Disk). d ∷ slice_set (disks_in contents fs) n (filled_disk (disk_at (disks_in contents fs) n).length bs))
    (disk_other contents key bs f (λ e. no_suc n (sym (only 0 (ap (λ (x : List ℕ). Some x) e)))))
    ∙ ap (λ (ds : List Disk). disk_in (with_value contents key bs) f ∷ ds)
    (set_here contents key bs fs n has (λ j h. let up : suc j ≡ suc n = only (suc j) h in let same : j ≡ n = omega (arith, up) in same))

size_here : (contents : Contents) (key : List ℕ) (files : List FileUse) (n : ℕ) → Has files n key → size_at files (Some n) ≡ Some (disk_at (disks_in contents files) n).length
size_here contents key [] n has = no_some key has
size_here contents key (f ∷ fs) zero has = ap (λ (x : ℕ). Some x) (sym (size_in f.length (contents f.external)))
size_here contents key (f ∷ fs) (suc n) has = size_here contents key fs n has

pub is_size : (contents : Contents) (files : List FileUse) (ds : List Disk) (key : List ℕ) (n : ℕ) → ds ≡ disks_in contents files → number_of files key ≡ Some n
    → size_of files key ≡ Some (disk_at ds n).length
is_size contents files ds key n is e =
    ap (λ (o : Option ℕ). size_at files o) e
    ∙ size_here contents key files n (is_own files key n e)
    ∙ ap (λ (xs : List Disk). Some (disk_at xs n).length) (sym is)

closed_here : (contents : Contents) (key : List ℕ) (files : List FileUse) (n : ℕ) → Has files n key → (disk_at (disks_in contents files) n).opening ≡ Closed
closed_here contents key [] n has = no_some key has
closed_here contents key (f ∷ fs) zero has = closed_in f.length (contents f.external)
closed_here contents key (f ∷ fs) (suc n) has = closed_here contents key fs n has

pub is_closed : (contents : Contents) (files : List FileUse) (ds : List Disk) (key : List ℕ) (n : ℕ) → ds ≡ disks_in contents files → number_of files key ≡ Some n
    → (disk_at ds n).opening ≡ Closed
is_closed contents files ds key n is e =
    subst (λ (xs : List Disk). (disk_at xs n).opening ≡ Closed) (sym is) (closed_here contents key files n (is_own files key n e))

pub as_many : (contents : Contents) (files : List FileUse) → length (disks_in contents files) ≡ length files
as_many contents [] = refl
as_many contents (f ∷ fs) = ap suc (as_many contents fs)

pub is_below : (contents : Contents) (files : List FileUse) (ds : List Disk) (key : List ℕ) (n : ℕ) → ds ≡ disks_in contents files → number_of files key ≡ Some n → n < length ds
is_below contents files ds key n is e =
    let below : n < length files = is_within files key n (is_own files key n e) in
    subst (λ (m : ℕ). n < m) (sym (ap (λ (xs : List Disk). length xs) is ∙ as_many contents files)) below

-- the file of a number that was found is set, and no other
pub disk_set : (files : List FileUse) (key : List ℕ) (n : ℕ) (bytes : Option (List ℕ)) (before after : List Disk) → AreApart files → number_of files key ≡ Some n
    → after ≡ with_disk before n bytes → (contents : Contents) → before ≡ disks_in contents files → after ≡ disks_in (with_bytes contents key bytes) files
disk_set files key n None before after apart e a contents is = a ∙ is
disk_set files key n (Some bs) before after apart e a contents is =
    let has : Has files n key = is_own files key n e in
    a
    ∙ ap (λ (ds : List Disk). slice_set ds n (filled_disk (disk_at ds n).length bs)) is
    ∙ set_here contents key bs files n has (λ j h. apart j n key h has)

missing_here : (before : List ℕ → Option ℕ) (k : ℕ) (external key : List ℕ) → with_value before external k key ≡ None → (before key ≡ None) × (external ≢ key)
missing_here before k external key e =
    elim (bytes_eq external key) as (λ b. bytes_eq external key ≡ b → cond b (Some k) (before key) ≡ None → (before key ≡ None) × (external ≢ key)) [
      | true ↦ λ h none. no_some k (sym none)
      | false ↦ λ h none. (none, λ same. no_true (sym h ∙ (bytes_eq-Decides external key).1 same))
    ] refl e
  where
    no_true : false ≡ true → ⊥
    no_true x = cc

numbers_missing : (before : List ℕ → Option ℕ) (k : ℕ) (files : List FileUse) (key : List ℕ) → numbers_from before k files key ≡ None
    → (before key ≡ None) × ((i : ℕ) → Has files i key → ⊥)
numbers_missing before k [] key e = (e, λ i has. no_some key has)
numbers_missing before k (f ∷ fs) key e =
    let later = numbers_missing (with_value before f.external k) (k + 1) fs key e in
    let first = missing_here before k f.external key later.0 in
    (first.0, none f fs key first.1 later.1)
  where
    none : (f : FileUse) (fs : List FileUse) (key : List ℕ) → f.external ≢ key → ((i : ℕ) → Has fs i key → ⊥) → (i : ℕ) → Has (f ∷ fs) i key → ⊥
    none f fs key other rest zero has = other (some_is f.external key has)
    none f fs key other rest (suc i) has = rest i has

-- where no file has the name, its bytes change no disk
pub disks_stay : (files : List FileUse) (key : List ℕ) (bytes : Option (List ℕ)) (before : List Disk) → number_of files key ≡ None
    → (contents : Contents) → before ≡ disks_in contents files → before ≡ disks_in (with_bytes contents key bytes) files
disks_stay files key None before e contents is = is
disks_stay files key (Some bs) before e contents is =
    is ∙ others contents key bs files (numbers_missing holds_nothing 0 files key e).1

-- what the table of numbers gives for a name
pub numbered : (table : List ℕ → Option ℕ) (files : List FileUse) (key k : List ℕ) (o : Option ℕ) → table ≡ number_of files → k ≡ key → o ≡ table k → number_of files key ≡ o
numbered table files key k o same e is =
    sym (is ∙ ap (λ (x : List ℕ). table x) e ∙ ap (λ (t : List ℕ → Option ℕ). t key) same)

pub is_held : (files : List FileUse) (ds : List Disk) (key : List ℕ) (n : ℕ) → length ds ≡ length files → number_of files key ≡ Some n → n < length ds
is_held files ds key n same e = subst (λ (m : ℕ). n < m) (sym same) (is_within files key n (is_own files key n e))
