-- A store after a change of one file, as disks.
use Rattle.std.proofs.Common.{◌≡◌, ℕ, zero, suc, ◌+◌, ◌<◌, List, [], ◌∷◌, ◌++◌, length, take, drop, map, arith, add-one, take_all, drop_of_length-le, append-nil, slice_set, slice_index_or, Result, Ok, Err, OnOk, OnErr, IfOk, refl, sym, ap, ◌∙◌, subst}
use Rattle.std.proofs.lemmas.List.{map-set, get_or-map, length-map}
use Rattle.std.proofs.Math.Seq.{map-set_same}
use Rattle.program_meaning.specs.Files.{Disk, Closed, no_disk, disk_at, with_opening, closed}
use Rattle.seq_files.specs.Disks.{disk}
use Rattle.seq_files.specs.declared.held.HeldFile.{HeldFile}

-- the file of a number is the disk of that number
pub disk-now : (files : List HeldFile) (i : ℕ) (now : HeldFile) → now ≡ slice_index_or files i now → i < length (map disk files) → disk now ≡ disk_at (map disk files) i
disk-now files i now e h =
    ap disk e ∙ sym (get_or-map disk files i now no_disk (subst (λ n. i < n) (length-map files disk) h))

pub disks-set : (files : List HeldFile) (i : ℕ) (now new : HeldFile) (change : Disk → Disk) → now ≡ slice_index_or files i now → i < length (map disk files) → disk new ≡ change (disk now) → map disk (slice_set files i new) ≡ slice_set (map disk files) i (change (disk_at (map disk files) i))
disks-set files i now new change e h c =
    map-set disk files i new ∙ ap (slice_set (map disk files) i) (c ∙ ap change (disk-now files i now e h))

-- a file that stays as it is
pub disks-same : (files : List HeldFile) (i : ℕ) (now new : HeldFile) → now ≡ slice_index_or files i now → disk new ≡ disk now → map disk (slice_set files i new) ≡ map disk files
disks-same files i now new e same = map-set_same disk files i new now (same ∙ ap disk e)

-- what follows of an answer follows inside of it
pub ok_then : {A E P Q : Type 0} (r : Result A E) → (P → Q) → OnOk r P → OnOk r Q
ok_then (Ok a) f p = f p
ok_then (Err e) f p = record {}

pub err_then : {A E P Q : Type 0} (r : Result A E) → (P → Q) → OnErr r P → OnErr r Q
err_then (Ok a) f p = record {}
err_then (Err e) f p = f p

pub inside_ok : {A E : Type 0} {P Q : A → Type 0} (r : Result A E) → ((a : A) → P a → Q a) → IfOk r P → IfOk r Q
inside_ok (Ok a) f p = f a p
inside_ok (Err e) f p = record {}

-- one file more is closed
pub closed-step : (ds : List Disk) (i : ℕ) → i < length ds → slice_set (closed (take i ds) ++ drop i ds) i (with_opening (disk_at (closed (take i ds) ++ drop i ds) i) Closed) ≡ closed (take (suc i) ds) ++ drop (suc i) ds
closed-step [] i h = absurd (omega (arith, h))
closed-step (d ∷ ds) zero h = refl
closed-step (d ∷ ds) (suc i) h = ap (λ (l : List Disk). with_opening d Closed ∷ l) (closed-step ds i (omega (arith, h)))

pub closed-next : (files : List HeldFile) (ds : List Disk) (i : ℕ) (now new : HeldFile) → now ≡ slice_index_or files i now → i < length files → length files ≡ length ds → map disk files ≡ closed (take i ds) ++ drop i ds → disk new ≡ with_opening (disk now) Closed → map disk (slice_set files i new) ≡ closed (take (i + 1) ds) ++ drop (i + 1) ds
closed-next files ds i now new e h same before is =
    disks-set files i now new (λ d. with_opening d Closed) e (subst (λ n. i < n) (sym (length-map files disk)) h) is
    ∙ ap (λ (l : List Disk). slice_set l i (with_opening (disk_at l i) Closed)) before
    ∙ closed-step ds i (omega (arith, h, same))
    ∙ ap (λ n. closed (take n ds) ++ drop n ds) (sym (add-one i))

pub closed-all : (ds : List Disk) (n : ℕ) → n ≡ length ds → closed (take n ds) ++ drop n ds ≡ closed ds
closed-all ds n e =
    ap (λ (l : List Disk). closed l ++ drop n ds) (take_all n ds (omega (arith, e)))
    ∙ ap (λ (l : List Disk). closed ds ++ l) (drop_of_length-le ds (omega (arith, e)))
    ∙ append-nil (closed ds)
