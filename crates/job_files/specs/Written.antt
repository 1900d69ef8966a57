-- What a run leaves on the shelf.
use Rattle.std.specs.Prelude.{◌≡◌, ◌⊎◌, ℕ, ◌-◌, ◌≤◌, List, [], ◌∷◌, length, take, Option, Some, None, codes, option_map}
use Rattle.std.specs.List.{concat}
use Rattle.std.specs.FinMap.{insert}
use Rattle.shelf.specs.Causes.{Rose}
use Rattle.shelf.specs.Contents.{Files}
use Rattle.shelf.specs.declared.errors.ShelfErr.{ShelfErr}
use Rattle.shelf.specs.declared.errors.ShelfErr.TheVariants as shelf_errors
use Rattle.data_layout.specs.declared.portfolio.FileUse.{FileUse}
use Rattle.portfolio.specs.declared.manifest.Named.{Named}
use Rattle.program_meaning.specs.Files.{Disk, disk_at}
use Rattle.written_names.specs.Clashes.{under, done_under}
use Rattle.job_files.specs.Numbers.{number_of}
use Rattle.job_files.specs.declared.refusal.WriteFault.{WriteFault}
use Rattle.job_files.specs.declared.refusal.WriteFault.TheVariants as fault

-- the bytes of the records of a disk, if it is there
abbrev pub bytes_of_disk : Disk → Option (List ℕ)
bytes_of_disk disk = option_map concat disk.records

abbrev pub bytes_at : List Disk → Option ℕ → Option (List ℕ)
bytes_at ds None = None
bytes_at ds (Some number) = bytes_of_disk (disk_at ds number)

-- what the disks hold of the file of an external name
abbrev pub bytes_held : List FileUse → List Disk → List ℕ → Option (List ℕ)
bytes_held files ds external = bytes_at ds (number_of files external)

abbrev pub with_bytes : List ℕ → List ℕ → Files → Files
with_bytes name bytes shelved = insert shelved name bytes

abbrev pub with_held : List ℕ → Option (List ℕ) → Files → Files
with_held name None shelved = shelved
with_held name (Some bytes) shelved = with_bytes name bytes shelved

-- with a listed file that is held
abbrev pub with_file : List ℕ → List FileUse → List Disk → Named → Files → Files
with_file out files ds named shelved = with_held (under out named.name) (bytes_held files ds named.key) shelved

-- with each listed file that is held
abbrev pub with_files : List ℕ → List FileUse → List Disk → List Named → Files → Files
with_files out files ds [] shelved = shelved
with_files out files ds (named ∷ ns) shelved = with_files out files ds ns (with_file out files ds named shelved)

abbrev pub done_bytes : List ℕ
done_bytes = codes "done\n"

-- with the mark of the end
abbrev pub with_done : List ℕ → Files → Files
with_done out shelved = with_bytes (done_under out) done_bytes shelved

-- what a run leaves: each listed file that is held, and the mark of the end
abbrev pub with_run : List ℕ → List FileUse → List Disk → List Named → Files → Files
with_run out files ds listed shelved = with_done out (with_files out files ds listed shelved)

-- a file isn't begun, or holds a front of its bytes, which isn't the whole of them where there are any
abbrev pub MayHaveBegun : List ℕ → List ℕ → Option Files → Option Files → Type 0
MayHaveBegun name bytes before after =
    (after ≡ before) ⊎ ((n : ℕ) × (n ≤ length bytes - 1) × (after ≡ option_map (with_bytes name (take n bytes)) before))

abbrev pub MayHaveBegunHeld : List ℕ → Option (List ℕ) → Option Files → Option Files → Type 0
MayHaveBegunHeld name None before after = after ≡ before
MayHaveBegunHeld name (Some bytes) before after = MayHaveBegun name bytes before after

-- what is left after a fault: the first listed files are written and the next one may have begun; or all of them are, and
-- the mark of the end may have begun
abbrev pub HasLeft : List ℕ → List FileUse → List Disk → List Named → Option Files → Option Files → Type 0
HasLeft out files ds [] before after = MayHaveBegun (done_under out) done_bytes before after
HasLeft out files ds (named ∷ ns) before after =
    MayHaveBegunHeld (under out named.name) (bytes_held files ds named.key) before after
    ⊎ HasLeft out files ds ns (option_map (with_file out files ds named) before) after

-- the name is that of the mark of the end, or of a listed file
abbrev pub IsWritten : List ℕ → List Named → List ℕ → Type 0
IsWritten out [] name = name ≡ done_under out
IsWritten out (named ∷ ns) name = (name ≡ under out named.name) ⊎ IsWritten out ns name

-- a fault of the shelf has the name in the call; want of memory says nothing
abbrev pub HasWriteFault : List ℕ → List Named → WriteFault → Type 0
HasWriteFault out listed (fault.Shelf name) = IsWritten out listed name
HasWriteFault out listed fault.Memory = Unit {0}

-- the same of one name
abbrev pub IsFaultAt : List ℕ → WriteFault → Type 0
IsFaultAt name (fault.Shelf text) = text ≡ name
IsFaultAt name fault.Memory = Unit {0}

-- what the fault of a call is, or want of memory
abbrev pub IsFaultOf : ShelfErr → List ℕ → WriteFault → Type 0
IsFaultOf error name (fault.Shelf text) = (error ≡ shelf_errors.Failed) × (text ≡ name)
IsFaultOf error name fault.Memory = Unit {0}

-- where the fault is the shelf's, its count rose
abbrev pub RoseWith : WriteFault → ℕ → ℕ → Type 0
RoseWith (fault.Shelf name) before now = Rose before now
RoseWith fault.Memory before now = Unit {0}
