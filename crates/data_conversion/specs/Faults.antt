-- What the faults of calls are among those of data files; want of memory may stand in place of each.
use Rattle.std.specs.Prelude.{◌≡◌, ℕ, Bool, true, false, List}
use Rattle.shelf.specs.Causes.{Rose}
use Rattle.shelf.specs.declared.errors.ShelfErr.{ShelfErr}
use Rattle.shelf.specs.declared.errors.ShelfErr.TheVariants as shelf_errors
use Rattle.file_convert.specs.declared.fault.ConvertFault.{ConvertFault}
use Rattle.file_convert.specs.declared.fault.ConvertFault.TheVariants as file
use Rattle.data_conversion.specs.declared.fault.DataFault.{DataFault}
use Rattle.data_conversion.specs.declared.fault.DataFault.TheVariants as fault

abbrev pub IsOrMemory : DataFault → DataFault → Type 0
IsOrMemory wanted (fault.TooLarge name) = wanted ≡ fault.TooLarge name
IsOrMemory wanted (fault.Untame external row offset untame) = wanted ≡ fault.Untame external row offset untame
IsOrMemory wanted (fault.PartialRecord external left) = wanted ≡ fault.PartialRecord external left
IsOrMemory wanted (fault.Shelf name) = wanted ≡ fault.Shelf name
IsOrMemory wanted fault.Memory = Unit {0}

abbrev pub IsTooLarge : List ℕ → DataFault → Type 0
IsTooLarge name f = IsOrMemory (fault.TooLarge name) f

abbrev pub IsFailed : List ℕ → DataFault → Type 0
IsFailed name f = IsOrMemory (fault.Shelf name) f

abbrev pub IsUntame : List ℕ → ℕ → ℕ → List ℕ → DataFault → Type 0
IsUntame external row offset untame f = IsOrMemory (fault.Untame external row offset untame) f

abbrev pub IsPartialRecord : List ℕ → ℕ → DataFault → Type 0
IsPartialRecord external left f = IsOrMemory (fault.PartialRecord external left) f

-- the name in a call that writes, or in one that reads
abbrev pub name_in_call : Bool → List ℕ → List ℕ → List ℕ
name_in_call true name to = to
name_in_call false name to = name

abbrev pub shelf_fault : ShelfErr → List ℕ → DataFault
shelf_fault shelf_errors.Failed name = fault.Shelf name
shelf_fault shelf_errors.Memory name = fault.Memory

abbrev pub IsShelfFault : ShelfErr → List ℕ → DataFault → Type 0
IsShelfFault error name f = IsOrMemory (shelf_fault error name) f

-- the fault of a file by its external name and the two names on the shelf
abbrev pub file_fault : List ℕ → List ℕ → List ℕ → ConvertFault → DataFault
file_fault external name to (file.Untame row offset untame) = fault.Untame external row offset untame
file_fault external name to (file.PartialRecord left) = fault.PartialRecord external left
file_fault external name to (file.Shelf written) = fault.Shelf (name_in_call written name to)
file_fault external name to file.Memory = fault.Memory

abbrev pub IsFileFault : List ℕ → List ℕ → List ℕ → ConvertFault → DataFault → Type 0
IsFileFault external name to call f = IsOrMemory (file_fault external name to call) f

-- a fault of the shelf comes only where its count of faults rose
abbrev pub HasRose : ℕ → ℕ → DataFault → Type 0
HasRose before after (fault.TooLarge name) = Unit {0}
HasRose before after (fault.Untame external row offset untame) = Unit {0}
HasRose before after (fault.PartialRecord external left) = Unit {0}
HasRose before after (fault.Shelf name) = Rose before after
HasRose before after fault.Memory = Unit {0}

-- a fault that may come while files are written: they were measured before
abbrev pub IsOfWriting : DataFault → Type 0
IsOfWriting (fault.TooLarge name) = ⊥
IsOfWriting (fault.Untame external row offset untame) = Unit {0}
IsOfWriting (fault.PartialRecord external left) = Unit {0}
IsOfWriting (fault.Shelf name) = Unit {0}
IsOfWriting fault.Memory = Unit {0}
