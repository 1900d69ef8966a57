-- Sequential files: what they hold, how they are open, and the status of each call.
use Rattle.std.specs.Prelude.{ℕ, Bool, true, false, List, [], ◌∷◌, ◌++◌, slice_index_or, Option, Some, None}
use Rattle.byte_lists.specs.Text.{copied}
use Rattle.program_meaning.specs.Tree.{Mode, Input, Output, Extend}

-- a file is closed; open for input, with the records that are still to be read, and whether a READ has met the end;
-- or open for output or extension, between which only OPEN tells
pub data Opening : Type 0 where
  Closed : Opening
  Reading : (unread : List (List ℕ)) (ended : Bool) → Opening
  Writing : Opening

-- a file: the length of its records, its records or nothing, and how it is open
pub record Disk : Type 0 where
  pub length : ℕ
  pub records : Option (List (List ℕ))
  pub opening : Opening

-- what a call does: a status, the file after it, and the record that was read
pub record Done : Type 0 where
  pub status : ℕ
  pub disk : Disk
  pub got : Option (List ℕ)

abbrev pub done : ℕ → Disk → Done
done status d = record { status = status; disk = d; got = None }

abbrev pub with_opening : Disk → Opening → Disk
with_opening d o = record { length = d.length; records = d.records; opening = o }

abbrev pub with_records : Disk → List (List ℕ) → Disk
with_records d rs = record { length = d.length; records = Some rs; opening = Writing }

-- OPEN of a closed file. OUTPUT empties it; a missing file is neither read nor extended
abbrev pub open_closed : Disk → Mode → Option (List (List ℕ)) → Done
open_closed d Input None = done 35 d
open_closed d Input (Some rs) = done 0 (with_opening d (Reading rs false))
open_closed d Output rs = done 0 (with_records d [])
open_closed d Extend None = done 35 d
open_closed d Extend (Some rs) = done 0 (with_opening d Writing)

abbrev pub open_by : Disk → Mode → Opening → Done
open_by d m Closed = open_closed d m d.records
open_by d m (Reading unread ended) = done 41 d
open_by d m Writing = done 41 d

abbrev pub open_file : Disk → Mode → Done
open_file d m = open_by d m d.opening

abbrev pub close_by : Disk → Opening → Done
close_by d Closed = done 42 d
close_by d (Reading unread ended) = done 0 (with_opening d Closed)
close_by d Writing = done 0 (with_opening d Closed)

abbrev pub close_file : Disk → Done
close_file d = close_by d d.opening

-- the next record, or the end; a READ after one that met the end is refused
abbrev pub read_next : Disk → List (List ℕ) → Bool → Done
read_next d unread true = done 46 d
read_next d [] false = done 10 (with_opening d (Reading [] true))
read_next d (r ∷ rs) false = record { status = 0; disk = with_opening d (Reading rs false); got = Some r }

abbrev pub read_by : Disk → Opening → Done
read_by d Closed = done 47 d
read_by d (Reading unread ended) = read_next d unread ended
read_by d Writing = done 47 d

abbrev pub read_file : Disk → Done
read_file d = read_by d d.opening

abbrev pub records_in : Option (List (List ℕ)) → List (List ℕ)
records_in None = []
records_in (Some rs) = rs

-- a record more; a short one is filled with spaces
abbrev pub write_by : Disk → List ℕ → Opening → Done
write_by d bs Closed = done 48 d
write_by d bs (Reading unread ended) = done 48 d
write_by d bs Writing = done 0 (with_records d (records_in d.records ++ copied d.length bs ∷ []))

abbrev pub write_file : Disk → List ℕ → Done
write_file d bs = write_by d bs d.opening

-- in place of a file that isn't there; a sound program asks for none
abbrev pub no_disk : Disk
no_disk = record { length = 0; records = None; opening = Closed }

-- a file by its number
abbrev pub disk_at : List Disk → ℕ → Disk
disk_at ds file = slice_index_or ds file no_disk

-- all files closed
abbrev pub closed : List Disk → List Disk
closed [] = []
closed (d ∷ ds) = with_opening d Closed ∷ closed ds
