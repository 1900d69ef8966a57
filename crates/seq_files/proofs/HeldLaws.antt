-- A file after each change of its bytes, as a disk.
use Rattle.std.proofs.Common.{◌≡◌, ℕ, ◌+◌, ◌-◌, ◌%◌, ◌<◌, ◌≤◌, List, [], ◌∷◌, ◌++◌, length, take, drop, replicate, Option, Some, None, Result, Ok, Err, OnOk, OnErr, refl, sym, ap, ap₂, ◌∙◌, arith, length-append, length-drop}
use Rattle.std.specs.Prelude.{option_map}
use Rattle.std.specs.List.{concat}
use Rattle.std.proofs.lemmas.List.{take_all, length-replicate, drop-drop}
use Rattle.byte_lists.specs.Records.{records_of}
use Rattle.byte_lists.specs.Text.{copied}
use Rattle.byte_lists.proofs.RecordLaws.{records_of-next, records_of-end, records_of-push, whole-push, concat-records_of}
use Rattle.program_meaning.specs.Files.{Opening, Writing, with_records, records_in}
use Rattle.seq_files.specs.Bytes.{bytes_in}
use Rattle.seq_files.specs.Disks.{disk_of, opening}
use Rattle.seq_files.specs.declared.held.OpenState.{OpenState}
use Rattle.seq_files.specs.declared.held.OpenState.TheVariants as state

-- a record that isn't too long is filled and not cut
pub copied-filled : (n : ℕ) (xs : List ℕ) → length xs ≤ n → copied n xs ≡ xs ++ replicate (n - length xs) 32
copied-filled n xs h = take_all n (xs ++ replicate (n - length xs) 32) (omega (arith, h, length-append xs (replicate (n - length xs) 32), length-replicate {A = ℕ} (n - length xs) 32))

-- the records one after the other are the bytes
pub concat-held : (n : ℕ) (bytes : Option (List ℕ)) → length (bytes_in bytes) % n ≡ 0 → bytes ≡ option_map concat (option_map (records_of n) bytes)
concat-held n None h = refl
concat-held n (Some bs) h = ap Some (sym (concat-records_of n bs h))

-- whole records stay whole, whether there was memory for one more or not
pub whole-after : {A E : Type 0} (r : Result A E) (n : ℕ) (bs new row : List ℕ) → OnOk r (new ≡ bs ++ row) → OnErr r (new ≡ bs) → length bs % n ≡ 0 → length row ≡ n → length new % n ≡ 0
whole-after (Ok a) n bs new row ok err h e = ap (λ l. length l % n) ok ∙ whole-push n bs row h e
whole-after (Err e') n bs new row ok err h e = ap (λ l. length l % n) err ∙ h

pub records-pushed : (n : ℕ) (old : Option (List ℕ)) (row : List ℕ) → 0 < n → length (bytes_in old) % n ≡ 0 → length row ≡ n → records_of n (bytes_in old ++ row) ≡ records_in (option_map (records_of n) old) ++ row ∷ []
records-pushed n None row pos h e =
    records_of-push n [] row pos h e ∙ ap (λ (l : List (List ℕ)). l ++ row ∷ []) (records_of-end n [] pos)
records-pushed n (Some bs) row pos h e = records_of-push n bs row pos h e

-- a record more in a file that is open for output
pub disk-pushed : (n : ℕ) (old : Option (List ℕ)) (s : OpenState) (new row : List ℕ) → 0 < n → s ≡ state.Writing → length (bytes_in old) % n ≡ 0 → length row ≡ n → new ≡ bytes_in old ++ row → disk_of n (Some new) s ≡ with_records (disk_of n old s) (records_in (option_map (records_of n) old) ++ row ∷ [])
disk-pushed n old s new row pos w h e is =
    ap₂ (λ (rs : List (List ℕ)) (o : Opening). record { length = n; records = Some rs; opening = o }) (ap (records_of n) is ∙ records-pushed n old row pos h e) (ap (opening n new) w)

-- the record at an offset where one is left
pub record-next : (n next : ℕ) (bs : List ℕ) → 0 < n → n ≤ length bs - next → records_of n (drop next bs) ≡ take n (drop next bs) ∷ records_of n (drop (next + n) bs)
record-next n next bs pos h =
    records_of-next n (drop next bs) pos (omega (arith, h, length-drop next bs))
    ∙ ap (λ (l : List ℕ). take n (drop next bs) ∷ records_of n l) (drop-drop n next bs)
