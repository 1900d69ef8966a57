-- What a run finds in its data files, and why it can't begin.
use Rattle.std.specs.Prelude.{◌≡◌, ◌⊎◌, ℕ, ◌<◌, ◌≤◌, ◌%◌, List, [], ◌∷◌, ◌++◌, map, length, slice_get, slice_set, Option, Some, None, option_map, IfSome}
use Rattle.std.specs.FinMap.{get}
use Rattle.shelf.specs.Causes.{Rose}
use Rattle.shelf.specs.Contents.{Files}
use Rattle.data_layout.specs.declared.portfolio.FileUse.{FileUse}
use Rattle.name_tables.specs.Table.{holds_nothing, with_value}
use Rattle.portfolio.specs.declared.manifest.Named.{Named}
use Rattle.program_meaning.specs.Files.{Disk, disk_at}
use Rattle.seq_files.specs.Disks.{missing, filled_disk}
use Rattle.job_files.specs.Numbers.{number_of}
use Rattle.job_files.specs.declared.read.ReadFault.{ReadFault}
use Rattle.job_files.specs.declared.read.ReadFault.TheVariants as read
use Rattle.job_files.specs.declared.refusal.DataRefusal.{DataRefusal}
use Rattle.job_files.specs.declared.refusal.DataRefusal.TheVariants as refusal

-- the bytes of files by their external names
abbrev pub Contents : Type 0
Contents = List ℕ → Option (List ℕ)

abbrev pub bytes_at : Files → List ℕ → Named → Option (List ℕ)
bytes_at files folder named = get files (folder ++ named.name)

-- a listed file that isn't there leaves all as it was
abbrev pub with_bytes : Contents → List ℕ → Option (List ℕ) → Contents
with_bytes before external None = before
with_bytes before external (Some bytes) = with_value before external bytes

-- what the shelf holds of the listed files, beside what is known of others
abbrev pub with_listed : Files → List ℕ → Contents → List Named → Contents
with_listed files folder before [] = before
with_listed files folder before (named ∷ ns) = with_listed files folder (with_bytes before named.key (bytes_at files folder named)) ns

-- what the shelf holds of the listed files
abbrev pub contents_in : Files → List ℕ → List Named → Contents
contents_in files folder listed = with_listed files folder holds_nothing listed

abbrev pub held_disk : ℕ → Option (List ℕ) → Disk
held_disk size None = missing size
held_disk size (Some bytes) = filled_disk size bytes

-- a closed file that holds what is there under its external name
abbrev pub disk_in : Contents → FileUse → Disk
disk_in contents file = held_disk file.length (contents file.external)

abbrev pub disks_in : Contents → List FileUse → List Disk
disks_in contents files = map (disk_in contents) files

-- all files are closed
abbrev pub AreClosed : List FileUse → List Disk → Type 0
AreClosed files ds = (contents : Contents) × (ds ≡ disks_in contents files)

-- all files are closed, and hold what the shelf holds of them where it tells that
abbrev pub AreLoaded : Option Files → List ℕ → List Named → List FileUse → List Disk → Type 0
AreLoaded told folder listed files ds =
    (contents : Contents) × (ds ≡ disks_in contents files) × IfSome told (λ shelved. contents ≡ contents_in shelved folder listed)

abbrev pub size_at : List FileUse → Option ℕ → Option ℕ
size_at files None = None
size_at files (Some number) = option_map (λ (f : FileUse). f.length) (slice_get files number)

-- the record length of the file of an external name
abbrev pub size_of : List FileUse → List ℕ → Option ℕ
size_of files external = size_at files (number_of files external)

-- a file that is there is at most so large, and whole records
abbrev pub IsWholeOf : Option ℕ → Option (List ℕ) → Type 0
IsWholeOf None bytes = Unit {0}
IsWholeOf (Some size) None = Unit {0}
IsWholeOf (Some size) (Some bytes) = (length bytes ≤ 256000000) × (length bytes % size ≡ 0)

abbrev pub IsWhole : Files → List ℕ → List FileUse → Named → Type 0
IsWhole shelved folder files named = IsWholeOf (size_of files named.key) (bytes_at shelved folder named)

abbrev pub AreWhole : Files → List ℕ → List FileUse → List Named → Type 0
AreWhole shelved folder files [] = Unit {0}
AreWhole shelved folder files (named ∷ ns) = IsWhole shelved folder files named × AreWhole shelved folder files ns

-- a file is too large, or bytes of it are left over
abbrev pub IsFaultOf : Named → ℕ → List ℕ → DataRefusal → Type 0
IsFaultOf named size bytes (refusal.TooLarge name) = (name ≡ named.name) × (256000000 < length bytes)
IsFaultOf named size bytes (refusal.PartialRecord external left) =
    (external ≡ named.key) × (length bytes ≤ 256000000) × (left ≡ length bytes % size) × (0 < left)
IsFaultOf named size bytes (refusal.Shelf name) = ⊥
IsFaultOf named size bytes refusal.Memory = ⊥

abbrev pub IsFaultAt : Named → Option ℕ → Option (List ℕ) → DataRefusal → Type 0
IsFaultAt named None bytes refusal = ⊥
IsFaultAt named (Some size) None refusal = ⊥
IsFaultAt named (Some size) (Some bytes) refusal = IsFaultOf named size bytes refusal

abbrev pub IsFault : Files → List ℕ → List FileUse → Named → DataRefusal → Type 0
IsFault shelved folder files named refusal = IsFaultAt named (size_of files named.key) (bytes_at shelved folder named) refusal

-- a listed file is read, and the disks hold it beside what they held
abbrev pub IsRead : Option Files → List ℕ → List FileUse → Named → List Disk → List Disk → Type 0
IsRead told folder files named before after =
    (bytes : Option (List ℕ)) × ((contents : Contents) → before ≡ disks_in contents files → after ≡ disks_in (with_bytes contents named.key bytes) files)
    × IfSome told (λ shelved. (bytes ≡ bytes_at shelved folder named) × IsWhole shelved folder files named)

-- the disk of that number holds these bytes; a file that isn't there leaves it as it was
abbrev pub with_disk : List Disk → ℕ → Option (List ℕ) → List Disk
with_disk ds number None = ds
with_disk ds number (Some bytes) = slice_set ds number (filled_disk (disk_at ds number).length bytes)

-- the same of the disk of that number
abbrev pub IsReadAt : Option Files → List ℕ → ℕ → List Disk → List Disk → Type 0
IsReadAt told name number before after =
    (bytes : Option (List ℕ)) × (after ≡ with_disk before number bytes)
    × IfSome told (λ shelved. (bytes ≡ get shelved name) × IsWholeOf (Some (disk_at before number).length) bytes)

-- why a listed file isn't read
abbrev pub IsUnread : Option Files → List ℕ → List FileUse → Named → DataRefusal → Type 0
IsUnread told folder files named (refusal.TooLarge name) = IfSome told (λ shelved. IsFault shelved folder files named (refusal.TooLarge name))
IsUnread told folder files named (refusal.PartialRecord external left) = IfSome told (λ shelved. IsFault shelved folder files named (refusal.PartialRecord external left))
IsUnread told folder files named (refusal.Shelf name) = name ≡ folder ++ named.name
IsUnread told folder files named refusal.Memory = Unit {0}

-- why a file of records of that size isn't read
abbrev pub IsUnreadAt : Option Files → List ℕ → Named → ℕ → DataRefusal → Type 0
IsUnreadAt told name named size (refusal.TooLarge text) = IfSome told (λ shelved. IsFaultAt named (Some size) (get shelved name) (refusal.TooLarge text))
IsUnreadAt told name named size (refusal.PartialRecord external left) = IfSome told (λ shelved. IsFaultAt named (Some size) (get shelved name) (refusal.PartialRecord external left))
IsUnreadAt told name named size (refusal.Shelf text) = text ≡ name
IsUnreadAt told name named size refusal.Memory = Unit {0}

-- bytes of a file are left over, or there is no memory
abbrev pub IsPartial : Named → ℕ → List ℕ → DataRefusal → Type 0
IsPartial named size bytes (refusal.TooLarge name) = ⊥
IsPartial named size bytes (refusal.PartialRecord external left) = (external ≡ named.key) × (left ≡ length bytes % size) × (0 < left)
IsPartial named size bytes (refusal.Shelf name) = ⊥
IsPartial named size bytes refusal.Memory = Unit {0}

-- the file has these bytes, which aren't too many
abbrev pub HasBytes : Option Files → List ℕ → Option (List ℕ) → Type 0
HasBytes told name bytes = IfSome bytes (λ bs. length bs ≤ 256000000) × IfSome told (λ shelved. bytes ≡ get shelved name)

-- the file is too large, where that is the fault
abbrev pub HasReadFault : Option Files → List ℕ → ReadFault → Type 0
HasReadFault told name read.TooLarge = IfSome told (λ shelved. (bytes : List ℕ) × (get shelved name ≡ Some bytes) × (256000000 < length bytes))
HasReadFault told name read.Shelf = Unit {0}
HasReadFault told name read.Memory = Unit {0}

-- what that fault is, by the name in the manifest or that in the call, or want of memory
abbrev pub IsRefusalOf : ReadFault → List ℕ → List ℕ → DataRefusal → Type 0
IsRefusalOf fault listed name (refusal.TooLarge text) = (fault ≡ read.TooLarge) × (text ≡ listed)
IsRefusalOf fault listed name (refusal.PartialRecord external left) = ⊥
IsRefusalOf fault listed name (refusal.Shelf text) = (fault ≡ read.Shelf) × (text ≡ name)
IsRefusalOf fault listed name refusal.Memory = Unit {0}

-- the first listed file at fault has this one
abbrev pub HasFault : Files → List ℕ → List FileUse → List Named → DataRefusal → Type 0
HasFault shelved folder files [] refusal = ⊥
HasFault shelved folder files (named ∷ ns) refusal =
    IsFault shelved folder files named refusal ⊎ (IsWhole shelved folder files named × HasFault shelved folder files ns refusal)

-- one of the listed files has this name on the shelf
abbrev pub IsListed : List ℕ → List Named → List ℕ → Type 0
IsListed folder [] name = ⊥
IsListed folder (named ∷ ns) name = (name ≡ folder ++ named.name) ⊎ IsListed folder ns name

-- why the files aren't loaded; a fault of the shelf has the name in the call, and want of memory says nothing
abbrev pub HasDataRefusal : Option Files → List ℕ → List FileUse → List Named → DataRefusal → Type 0
HasDataRefusal told folder files listed (refusal.TooLarge name) = IfSome told (λ shelved. HasFault shelved folder files listed (refusal.TooLarge name))
HasDataRefusal told folder files listed (refusal.PartialRecord external left) = IfSome told (λ shelved. HasFault shelved folder files listed (refusal.PartialRecord external left))
HasDataRefusal told folder files listed (refusal.Shelf name) = IsListed folder listed name
HasDataRefusal told folder files listed refusal.Memory = Unit {0}

-- where the refusal is the shelf's, its count rose
abbrev pub RoseWith : DataRefusal → ℕ → ℕ → Type 0
RoseWith (refusal.TooLarge name) before now = Unit {0}
RoseWith (refusal.PartialRecord external left) before now = Unit {0}
RoseWith (refusal.Shelf name) before now = Rose before now
RoseWith refusal.Memory before now = Unit {0}
