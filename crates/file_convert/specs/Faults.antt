-- Why a file has no image, and what a conversion then leaves.
use Rattle.std.specs.Prelude.{◌≡◌, ◌⊎◌, ℕ, ◌+◌, ◌-◌, ◌*◌, ◌<◌, ◌≤◌, Bool, false, List, ◌++◌, length, Option, Some, IfSome}
use Rattle.std.specs.Option.{option_map}
use Rattle.std.specs.FinMap.{insert}
use Rattle.shelf.specs.Causes.{Rose}
use Rattle.shelf.specs.Contents.{Files, bytes_of}
use Rattle.shelf.specs.declared.errors.ShelfErr.{ShelfErr}
use Rattle.shelf.specs.declared.errors.ShelfErr.TheVariants as shelf_errors
use Rattle.file_convert.specs.Cuts.{covered, first_untame}
use Rattle.file_convert.specs.Files.{record_at, IsTameUpTo, file_image, with_front, with_image}
use Rattle.file_convert.specs.declared.cut.Cut.{Cut}
use Rattle.file_convert.specs.declared.cut.Cuts.{Cuts}
use Rattle.file_convert.specs.declared.fault.ConvertFault.{ConvertFault}
use Rattle.file_convert.specs.declared.fault.ConvertFault.TheVariants.{Untame, PartialRecord, Shelf, Memory}

-- this cut is the first of the record that is not tame, and these are its bytes
abbrev pub IsUntameIn : Cuts → List ℕ → (offset : ℕ) → (untame : List ℕ) → Type 0
IsUntameIn cuts record_bytes offset untame =
    (cut : Cut) × (first_untame cuts.list record_bytes ≡ Some cut) × (cut.offset ≡ offset) × (covered cut record_bytes ≡ untame)

-- the fault of that cut in the record of that index, or want of memory
abbrev pub IsUntameFault : ℕ → Cut → List ℕ → ConvertFault → Type 0
IsUntameFault index cut record_bytes (Untame row offset untame) = (row ≡ index + 1) × (cut.offset ≡ offset) × (covered cut record_bytes ≡ untame)
IsUntameFault index cut record_bytes Memory = Unit {0}
IsUntameFault index cut record_bytes (PartialRecord left) = ⊥
IsUntameFault index cut record_bytes (Shelf written) = ⊥

-- the record after the first ones is whole and not tame, or it is the last and not whole
abbrev pub HasFaultAfter : Cuts → ℕ → List ℕ → ConvertFault → Type 0
HasFaultAfter cuts count bytes (Untame row offset untame) =
    (row ≡ count + 1) × ((count + 1) * cuts.length ≤ length bytes) × IsUntameIn cuts (record_at cuts count bytes) offset untame
HasFaultAfter cuts count bytes (PartialRecord left) = (length bytes ≡ count * cuts.length + left) × (1 ≤ left) × (left < cuts.length)
HasFaultAfter cuts count bytes (Shelf written) = Unit {0}
HasFaultAfter cuts count bytes Memory = Unit {0}

-- the first records are tame, and what comes after them is at fault
abbrev pub HasConvertFault : Cuts → List ℕ → ConvertFault → Type 0
HasConvertFault cuts bytes fault = (count : ℕ) × IsTameUpTo cuts count bytes × HasFaultAfter cuts count bytes fault

-- the count of faults of the shelf rose where the fault is one of the shelf
abbrev pub RoseWith : ConvertFault → (before now : ℕ) → Type 0
RoseWith (Untame row offset untame) before now = Unit {0}
RoseWith (PartialRecord left) before now = Unit {0}
RoseWith (Shelf written) before now = Rose before now
RoseWith Memory before now = Unit {0}

-- the fault is not one of a call that writes
abbrev pub IsOfReading : ConvertFault → Type 0
IsOfReading (Untame row offset untame) = Unit {0}
IsOfReading (PartialRecord left) = Unit {0}
IsOfReading (Shelf written) = written ≡ false
IsOfReading Memory = Unit {0}

-- the fault of a call of the shelf
abbrev pub fault_of : ShelfErr → Bool → ConvertFault
fault_of shelf_errors.Failed written = Shelf written
fault_of shelf_errors.Memory written = Memory

-- a front of the image of a file
abbrev pub IsFrontOf : List ℕ → List ℕ → Type 0
IsFrontOf front whole = (rest : List ℕ) × (whole ≡ front ++ rest)

-- the other file is not yet made, or holds a front of the image, and no other file is changed
abbrev pub MayHaveBegun : Cuts → (name to : List ℕ) → (before after : Option Files) → Type 0
MayHaveBegun cuts name to before after =
    (after ≡ before)
    ⊎ ((front : List ℕ) × IfSome before (λ files. IsFrontOf front (file_image cuts (bytes_of files name))) × (after ≡ option_map (λ (files : Files). insert files to front) before))

-- what a conversion leaves that ends with a fault: where a record is at fault, the images of those before it
abbrev pub HasLeft : Cuts → (name to : List ℕ) → (before after : Option Files) → ConvertFault → Type 0
HasLeft cuts name to before after (Untame row offset untame) = after ≡ option_map (with_front cuts name to (row - 1)) before
HasLeft cuts name to before after (PartialRecord left) = after ≡ option_map (with_image cuts name to) before
HasLeft cuts name to before after (Shelf written) = MayHaveBegun cuts name to before after
HasLeft cuts name to before after Memory = MayHaveBegun cuts name to before after
