-- No call changes how long the records of a file are, nor does closing all files change how many there are.
use Rattle.std.proofs.Common.{◌≡◌, ℕ, suc, Bool, true, false, List, [], ◌∷◌, length, Option, Some, None, refl, ap}
use Rattle.program_meaning.specs.Tree.{Mode, Input, Output, Extend}
use Rattle.program_meaning.specs.Files.{Opening, Closed, Reading, Writing, Disk, open_closed, open_by, open_file, close_by, close_file, read_next, read_by, read_file, write_by, write_file, closed}

length-open_closed : (d : Disk) (m : Mode) (rs : Option (List (List ℕ))) → (open_closed d m rs).disk.length ≡ d.length
length-open_closed d Input None = refl
length-open_closed d Input (Some rs) = refl
length-open_closed d Output rs = refl
length-open_closed d Extend None = refl
length-open_closed d Extend (Some rs) = refl

length-open_by : (d : Disk) (m : Mode) (o : Opening) → (open_by d m o).disk.length ≡ d.length
length-open_by d m Closed = length-open_closed d m d.records
length-open_by d m (Reading unread ended) = refl
length-open_by d m Writing = refl

pub length-open : (d : Disk) (m : Mode) → (open_file d m).disk.length ≡ d.length
length-open d m = length-open_by d m d.opening

length-close_by : (d : Disk) (o : Opening) → (close_by d o).disk.length ≡ d.length
length-close_by d Closed = refl
length-close_by d (Reading unread ended) = refl
length-close_by d Writing = refl

pub length-close : (d : Disk) → (close_file d).disk.length ≡ d.length
length-close d = length-close_by d d.opening

length-read_next : (d : Disk) (unread : List (List ℕ)) (ended : Bool) → (read_next d unread ended).disk.length ≡ d.length
length-read_next d unread true = refl
length-read_next d [] false = refl
length-read_next d (r ∷ rs) false = refl

length-read_by : (d : Disk) (o : Opening) → (read_by d o).disk.length ≡ d.length
length-read_by d Closed = refl
length-read_by d (Reading unread ended) = length-read_next d unread ended
length-read_by d Writing = refl

pub length-read : (d : Disk) → (read_file d).disk.length ≡ d.length
length-read d = length-read_by d d.opening

length-write_by : (d : Disk) (bs : List ℕ) (o : Opening) → (write_by d bs o).disk.length ≡ d.length
length-write_by d bs Closed = refl
length-write_by d bs (Reading unread ended) = refl
length-write_by d bs Writing = refl

pub length-write : (d : Disk) (bs : List ℕ) → (write_file d bs).disk.length ≡ d.length
length-write d bs = length-write_by d bs d.opening

pub length-closed : (ds : List Disk) → length (closed ds) ≡ length ds
length-closed [] = refl
length-closed (d ∷ ds) = ap suc (length-closed ds)
