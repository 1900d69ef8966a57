-- What a run begins with, and why it doesn't begin.
use Rattle.std.specs.Prelude.{◌≡◌, ◌⊎◌, ℕ, Bool, true, false, List, [], ◌++◌, Option, Some, None, IfSome, codes, decimal, string_bytes}
use Rattle.answers.specs.Lines.{refused_name_line, shelf_fault_line}
use Rattle.gathered.specs.Shelved.{IsGathered, HasGatherFault, RoseWith}
use Rattle.gathered.specs.declared.gathering.Gathered.{Gathered}
use Rattle.job_files.specs.Loaded as files
use Rattle.job_files.specs.declared.refusal.DataRefusal.{DataRefusal}
use Rattle.job_files.specs.declared.refusal.DataRefusal.TheVariants as file
use Rattle.manifest_load.specs.declared.open.Opened.{Opened}
use Rattle.name_tables.specs.Names.{IsLeast, NonePasses}
use Rattle.portfolio.specs.Faults.{all_files}
use Rattle.portfolio.specs.declared.manifest.Manifest.{Manifest}
use Rattle.program_meaning.specs.Files.{Disk}
use Rattle.refusal_lines.specs.Lines as lines
use Rattle.seq_files.specs.Disks.{disks}
use Rattle.shelf.specs.Causes.{Rose}
use Rattle.shelf.specs.Contents.{Files}
use Rattle.written_names.specs.Clashes.{done_under, is_clash, is_taken, names_of_run, names_read}
use Rattle.run_command.specs.Jobs.{job_numbers}
use Rattle.run_command.specs.declared.prepared.Prepared.{Prepared}
use Rattle.run_command.specs.declared.refusal.RunRefusal.{RunRefusal}
use Rattle.run_command.specs.declared.refusal.RunRefusal.TheVariants as refusal

-- whether a name that the run may write is taken by a file that is read, or stands twice
abbrev pub clashes : List ℕ → Opened → List ℕ → List ℕ → Bool
clashes main opened out =
    is_clash (names_read main (string_bytes opened.folder) (all_files opened.manifest)) (names_of_run out opened.manifest.files)

-- no name that the run may write is taken, and no run has ended there
abbrev pub IsFree : Option Files → List ℕ → Opened → List ℕ → Type 0
IsFree told main opened out = NonePasses (clashes main opened out) × IfSome told (λ shelved. is_taken out shelved ≡ false)

-- the texts of the manifest are this portfolio
abbrev pub IsGatheredFor : Option Files → Opened → Gathered → Type 0
IsGatheredFor told opened g = IsGathered (string_bytes opened.folder) opened.length told opened.manifest g.texts.list g.portfolio

-- the job has these programs
abbrev pub IsJob : Opened → Gathered → List ℕ → List ℕ → Type 0
IsJob opened g job numbers = job_numbers opened.manifest g.portfolio.programs job ≡ Some numbers

-- the data files of the portfolio, as the shelf holds them
abbrev pub AreLoadedFor : Option Files → Opened → Gathered → List Disk → Type 0
AreLoadedFor told opened g ds = files.AreLoaded told (string_bytes opened.folder) opened.manifest.files g.portfolio.files ds

-- each of them that is there is whole records, and not too large
abbrev pub AreWholeFor : Option Files → Opened → Gathered → Type 0
AreWholeFor told opened g = IfSome told (λ shelved. files.AreWhole shelved (string_bytes opened.folder) g.portfolio.files opened.manifest.files)

-- the data files of a portfolio with a job are these
abbrev pub IsPreparedOf : Option Files → List ℕ → Opened → Prepared → Type 0
IsPreparedOf told job opened prepared =
    IsJob opened prepared.gathered job prepared.job.programs
    × AreLoadedFor told opened prepared.gathered (disks prepared.store)
    × AreWholeFor told opened prepared.gathered

-- the portfolio, the job and the data files that a run begins with
abbrev pub IsPreparedFrom : Option Files → List ℕ → Opened → Prepared → Type 0
IsPreparedFrom told job opened prepared = IsGatheredFor told opened prepared.gathered × IsPreparedOf told job opened prepared

-- and its names are free
abbrev pub IsPrepared : Option Files → List ℕ → List ℕ → List ℕ → Opened → Prepared → Type 0
IsPrepared told main job out opened prepared = IsFree told main opened out × IsPreparedFrom told job opened prepared

-- a portfolio has no such job, or it has, and a data file is refused
abbrev pub HasJobCause : Option Files → List ℕ → Opened → Gathered → RunRefusal → Type 0
HasJobCause told job opened g (refusal.Clash name) = ⊥
HasJobCause told job opened g refusal.Taken = ⊥
HasJobCause told job opened g (refusal.Portfolio fault) = ⊥
HasJobCause told job opened g refusal.Job = job_numbers opened.manifest g.portfolio.programs job ≡ None
HasJobCause told job opened g (refusal.Data fault) =
    ((numbers : List ℕ) × IsJob opened g job numbers)
    × files.HasDataRefusal told (string_bytes opened.folder) g.portfolio.files opened.manifest.files fault
HasJobCause told job opened g refusal.Shelf = ⊥
HasJobCause told job opened g refusal.Memory = Unit {0}

-- the texts are no portfolio, or they are, and the job or a data file is refused
abbrev pub HasPortfolioCause : Option Files → List ℕ → Opened → RunRefusal → Type 0
HasPortfolioCause told job opened (refusal.Clash name) = ⊥
HasPortfolioCause told job opened refusal.Taken = ⊥
HasPortfolioCause told job opened (refusal.Portfolio fault) =
    HasGatherFault (string_bytes opened.folder) opened.length told opened.manifest fault
HasPortfolioCause told job opened refusal.Job = (g : Gathered) × IsGatheredFor told opened g × HasJobCause told job opened g refusal.Job
HasPortfolioCause told job opened (refusal.Data fault) =
    (g : Gathered) × IsGatheredFor told opened g × HasJobCause told job opened g (refusal.Data fault)
HasPortfolioCause told job opened refusal.Shelf = ⊥
HasPortfolioCause told job opened refusal.Memory = Unit {0}

-- a name that is written is taken, or else a run has ended there; of the shelf's fault nothing is said
abbrev pub HasNameCause : Option Files → List ℕ → List ℕ → Opened → RunRefusal → Type 0
HasNameCause told main out opened (refusal.Clash name) = IsLeast (clashes main opened out) name
HasNameCause told main out opened refusal.Taken =
    NonePasses (clashes main opened out) × IfSome told (λ shelved. is_taken out shelved ≡ true)
HasNameCause told main out opened (refusal.Portfolio fault) = ⊥
HasNameCause told main out opened refusal.Job = ⊥
HasNameCause told main out opened (refusal.Data fault) = ⊥
HasNameCause told main out opened refusal.Shelf = Unit {0}
HasNameCause told main out opened refusal.Memory = Unit {0}

-- why a run doesn't begin: its names, and where they are free the rest
abbrev pub HasRunRefusal : Option Files → List ℕ → List ℕ → List ℕ → Opened → RunRefusal → Type 0
HasRunRefusal told main job out opened r =
    HasNameCause told main out opened r ⊎ (IsFree told main opened out × HasPortfolioCause told job opened r)

-- where the refusal is the shelf's, its count rose
abbrev pub RoseBy : RunRefusal → ℕ → ℕ → Type 0
RoseBy (refusal.Clash name) before now = Unit {0}
RoseBy refusal.Taken before now = Unit {0}
RoseBy (refusal.Portfolio fault) before now = RoseWith fault before now
RoseBy refusal.Job before now = Unit {0}
RoseBy (refusal.Data fault) before now = files.RoseWith fault before now
RoseBy refusal.Shelf before now = Rose before now
RoseBy refusal.Memory before now = Unit {0}

abbrev pub partial_line : List ℕ → ℕ → List ℕ
partial_line external left = codes "data PartialRecord " ++ (external ++ (codes " left " ++ (decimal left ++ codes "\n")))

-- a data file goes by the name that the manifest gives it, or by its external name
abbrev pub data_line : DataRefusal → List ℕ
data_line (file.TooLarge name) = refused_name_line (codes "TooLarge") name
data_line (file.PartialRecord external left) = partial_line external left
data_line (file.Shelf name) = shelf_fault_line name
data_line file.Memory = []

abbrev pub data_status : DataRefusal → ℕ
data_status (file.TooLarge name) = 3
data_status (file.PartialRecord external left) = 5
data_status (file.Shelf name) = 6
data_status file.Memory = 8

-- the mark of the end of an earlier run
abbrev pub taken_line : List ℕ → List ℕ
taken_line out = refused_name_line (codes "OutTaken") (done_under out)

abbrev pub done_fault : List ℕ → List ℕ
done_fault out = shelf_fault_line (done_under out)

-- the job goes by the word that was given
abbrev pub run_line : Manifest → List ℕ → List ℕ → RunRefusal → List ℕ
run_line m job out (refusal.Clash name) = refused_name_line (codes "OutClash") name
run_line m job out refusal.Taken = taken_line out
run_line m job out (refusal.Portfolio fault) = lines.portfolio_line m fault
run_line m job out refusal.Job = refused_name_line (codes "UnknownJob") job
run_line m job out (refusal.Data fault) = data_line fault
run_line m job out refusal.Shelf = done_fault out
run_line m job out refusal.Memory = []

abbrev pub run_status : RunRefusal → ℕ
run_status (refusal.Clash name) = 3
run_status refusal.Taken = 3
run_status (refusal.Portfolio fault) = lines.portfolio_status fault
run_status refusal.Job = 3
run_status (refusal.Data fault) = data_status fault
run_status refusal.Shelf = 6
run_status refusal.Memory = 8
