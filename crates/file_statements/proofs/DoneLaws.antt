-- The file's own part of a statement: what is read by READ alone, and the world after it.
use Rattle.std.proofs.Common.{◌≡◌, ℕ, ◌==◌, true, false, List, [], ◌∷◌, cond, slice_set, slice_index_or, refl, sym, ap, ap₂, ◌∙◌}
use Rattle.byte_lists.specs.Part.{with_part}
use Rattle.program_meaning.specs.Files.{Disk, Opening, Closed, Reading, Writing, disk_at, read_file, read_by}
use Rattle.program_meaning.specs.Layout.{Span}
use Rattle.program_meaning.specs.State as state
use Rattle.program_meaning.specs.State.{Shown, World}
use Rattle.program_meaning.specs.Step.{with_record, after_call}
use Rattle.program_meaning.specs.Storage.{Storage, write}
use Rattle.seq_files.specs.Codes.{code}
use Rattle.seq_files.specs.Disks.{disks, got_or}
use Rattle.seq_files.specs.declared.status.Status.{Status}
use Rattle.storage_places.specs.Held.{held}
use Rattle.file_statements.specs.declared.unit.RunUnit.{RunUnit}
use Rattle.file_statements.specs.Done.{HasDone, recorded}
use Rattle.file_statements.specs.Units.{world_of}

-- bytes at the same place
same-place : (store : Storage) (span : Span) (area : ℕ) (bs : List ℕ) → span.area ≡ area → span.start ≡ 0
    → write store span bs ≡ slice_set store area (with_part (slice_index_or store area []) 0 bs)
same-place store span area bs at start =
    ap₂ (λ (a o : ℕ). slice_set store a (with_part (slice_index_or store a []) o bs)) at start

-- the record that was read, if one was, stands at the start of its area
read-by-put : (c : state.Channel) (w : World) (span : Span) (before : List ℕ) (d : Disk) (o : Opening) → span.area ≡ c.area → span.start ≡ 0
    → with_record c (read_by d o).got w ≡ record { storage = cond ((read_by d o).status == 0) (write w.storage span (got_or before (read_by d o).got)) w.storage; files = w.files; shown = w.shown }
read-by-put c w span before d Closed at start = refl
read-by-put c w span before d (Reading unread true) at start = refl
read-by-put c w span before d (Reading [] false) at start = refl
read-by-put c w span before d (Reading (r ∷ rs) false) at start =
    ap (λ (st : Storage). record { storage = st; files = w.files; shown = w.shown }) (sym (same-place w.storage span c.area r at start))
read-by-put c w span before d Writing at start = refl

pub done-read : (c : state.Channel) (old new : RunUnit) (s : Status) (span : Span) (before got : List ℕ) → span.area ≡ c.area → span.start ≡ 0
    → code s ≡ (read_file (disk_at (disks old.store) c.file)).status
    → disks new.store ≡ slice_set (disks old.store) c.file (read_file (disk_at (disks old.store) c.file)).disk
    → got ≡ got_or before (read_file (disk_at (disks old.store) c.file)).got
    → held new.storage ≡ recorded s (held old.storage) span got
    → HasDone c (read_file (disk_at (disks old.store) c.file)) old new s
done-read c old new s span before got at start status disk is storage =
    let d : Disk = disk_at (disks old.store) c.file in
    let put : held new.storage ≡ cond ((read_file d).status == 0) (write (held old.storage) span (got_or before (read_file d).got)) (held old.storage) =
    storage ∙ ap₂ (λ (n : ℕ) (bs : List ℕ). cond (n == 0) (write (held old.storage) span bs) (held old.storage)) status is in
    record {
      status = status;
      world = λ (shown : List Shown). read-by-put c (after_call (world_of old shown) c (read_file d)) span before d d.opening at start
          ∙ ap₂ (λ (st : Storage) (ds : List Disk). record { storage = st; files = ds; shown = shown }) (sym put) (sym disk);
    }
