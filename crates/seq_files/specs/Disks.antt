-- The files that are held, as the disks of the meaning of programs.
use Rattle.std.specs.Prelude.{ℕ, List, [], ◌∷◌, Option, Some, None, drop, map}
use Rattle.std.specs.Option.{option_map}
use Rattle.byte_lists.specs.Records.{records_of}
use Rattle.cobol_syntax.specs.declared.statement.Mode.{Mode}
use Rattle.cobol_syntax.specs.declared.statement.Mode.TheVariants as mode
use Rattle.data_layout.specs.declared.portfolio.FileUse.{FileUse}
use Rattle.program_meaning.specs.Tree as tree
use Rattle.program_meaning.specs.Files.{Disk, Opening, Closed, Reading, Writing}
use Rattle.seq_files.specs.Bytes.{bytes_in}
use Rattle.seq_files.specs.declared.held.OpenState.{OpenState}
use Rattle.seq_files.specs.declared.held.OpenState.TheVariants as state
use Rattle.seq_files.specs.declared.held.HeldFile.{HeldFile}
use Rattle.seq_files.specs.declared.store.Store.{Store}

abbrev pub read_mode : Mode → tree.Mode
read_mode mode.Input = tree.Input
read_mode mode.Output = tree.Output
read_mode mode.Extend = tree.Extend

-- what is unread are the records from an offset on
abbrev pub opening : ℕ → List ℕ → OpenState → Opening
opening n bs state.Closed = Closed
opening n bs (state.Reading next ended) = Reading (records_of n (drop next bs)) ended
opening n bs state.Writing = Writing

-- a file of records of this length, these bytes, if it is there, open in this way
abbrev pub disk_of : ℕ → Option (List ℕ) → OpenState → Disk
disk_of n bytes s = record { length = n; records = option_map (records_of n) bytes; opening = opening n (bytes_in bytes) s }

abbrev pub disk : HeldFile → Disk
disk f = disk_of f.size f.bytes f.state

abbrev pub disks : Store → List Disk
disks store = map disk store.files.items

-- files of which nothing is there
abbrev pub missing : ℕ → Disk
missing n = record { length = n; records = None; opening = Closed }

abbrev pub missing_all : List FileUse → List Disk
missing_all files = map (λ file. missing file.length) files

-- a closed file of these bytes
abbrev pub filled_disk : ℕ → List ℕ → Disk
filled_disk n bs = record { length = n; records = Some (records_of n bs); opening = Closed }

-- what stands in the room for a record: the record that was read, or what stood there before
abbrev pub got_or : List ℕ → Option (List ℕ) → List ℕ
got_or before None = before
got_or before (Some r) = r

-- opening a file that must be there: its status, and how it is open then
abbrev pub open_status : Option (List ℕ) → ℕ
open_status None = 35
open_status (Some bs) = 0

abbrev pub open_state : Option (List ℕ) → OpenState → OpenState → OpenState
open_state None to from = from
open_state (Some bs) to from = to
