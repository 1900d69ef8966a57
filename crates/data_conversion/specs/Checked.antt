-- Which listed data files have images, and why one has none.
use Rattle.std.specs.Prelude.{◌≡◌, ◌⊎◌, ℕ, ◌<◌, ◌≤◌, List, [], ◌∷◌, ◌++◌, length, Option, Some, None, IfSome}
use Rattle.std.specs.FinMap.{get}
use Rattle.shelf.specs.Contents.{Files}
use Rattle.data_layout.specs.declared.portfolio.FileUse.{FileUse}
use Rattle.file_convert.specs.Faults.{HasConvertFault}
use Rattle.file_convert.specs.Files.{IsTameFile}
use Rattle.file_convert.specs.declared.cut.Cuts.{Cuts}
use Rattle.file_convert.specs.declared.fault.ConvertFault.TheVariants as file
use Rattle.portfolio.specs.declared.manifest.Named.{Named}
use Rattle.data_conversion.specs.Numbers.{cuts_for}
use Rattle.data_conversion.specs.declared.fault.DataFault.{DataFault}
use Rattle.data_conversion.specs.declared.fault.DataFault.TheVariants as fault

-- what the shelf holds of a listed file
abbrev pub bytes_in : Files → List ℕ → Named → Option (List ℕ)
bytes_in shelved folder named = get shelved (folder ++ named.name)

-- a file that is there isn't too large, and is whole records that are all tame
abbrev pub IsFitOf : Cuts → Option (List ℕ) → Type 0
IsFitOf cuts None = Unit {0}
IsFitOf cuts (Some bytes) = (length bytes ≤ 256000000) × ((count : ℕ) × IsTameFile cuts bytes count)

abbrev pub IsFit : List Cuts → List FileUse → List ℕ → Files → Named → Type 0
IsFit images files folder shelved named =
    (cuts : Cuts) × (cuts_for images files named.key ≡ Some cuts) × IsFitOf cuts (bytes_in shelved folder named)

-- each listed file is so
abbrev pub AreFit : List Cuts → List FileUse → List ℕ → Files → List Named → Type 0
AreFit images files folder shelved [] = Unit {0}
AreFit images files folder shelved (named ∷ ns) = IsFit images files folder shelved named × AreFit images files folder shelved ns

-- a file is too large, or a record of it isn't tame, or bytes of it are left over
abbrev pub IsFaultOf : Named → Cuts → List ℕ → DataFault → Type 0
IsFaultOf named cuts bytes (fault.TooLarge name) = (name ≡ named.name) × (256000000 < length bytes)
IsFaultOf named cuts bytes (fault.Untame external row offset untame) =
    (external ≡ named.key) × (length bytes ≤ 256000000) × HasConvertFault cuts bytes (file.Untame row offset untame)
IsFaultOf named cuts bytes (fault.PartialRecord external left) =
    (external ≡ named.key) × (length bytes ≤ 256000000) × HasConvertFault cuts bytes (file.PartialRecord left)
IsFaultOf named cuts bytes (fault.Shelf name) = ⊥
IsFaultOf named cuts bytes fault.Memory = ⊥

abbrev pub IsFault : List Cuts → List FileUse → List ℕ → Files → Named → DataFault → Type 0
IsFault images files folder shelved named f =
    (cuts : Cuts) × (bytes : List ℕ) × (cuts_for images files named.key ≡ Some cuts) × (bytes_in shelved folder named ≡ Some bytes) × IsFaultOf named cuts bytes f

-- the first listed file at fault has this one
abbrev pub HasFault : List Cuts → List FileUse → List ℕ → Files → List Named → DataFault → Type 0
HasFault images files folder shelved [] f = ⊥
HasFault images files folder shelved (named ∷ ns) f =
    IsFault images files folder shelved named f ⊎ (IsFit images files folder shelved named × HasFault images files folder shelved ns f)

-- one of the listed files has this name on the shelf
abbrev pub IsListed : List ℕ → List Named → List ℕ → Type 0
IsListed folder [] name = ⊥
IsListed folder (named ∷ ns) name = (name ≡ folder ++ named.name) ⊎ IsListed folder ns name

-- why the files aren't all fit; a fault of the shelf has the name in the call, and want of memory says nothing
abbrev pub HasDataFault : List Cuts → List FileUse → List ℕ → Option Files → List Named → DataFault → Type 0
HasDataFault images files folder told listed (fault.TooLarge name) = IfSome told (λ shelved. HasFault images files folder shelved listed (fault.TooLarge name))
HasDataFault images files folder told listed (fault.Untame external row offset untame) =
    IfSome told (λ shelved. HasFault images files folder shelved listed (fault.Untame external row offset untame))
HasDataFault images files folder told listed (fault.PartialRecord external left) =
    IfSome told (λ shelved. HasFault images files folder shelved listed (fault.PartialRecord external left))
HasDataFault images files folder told listed (fault.Shelf name) = IsListed folder listed name
HasDataFault images files folder told listed fault.Memory = Unit {0}

-- one listed file is fit, where the shelf tells what it holds
pub record IsChecked (images : List Cuts) (files : List FileUse) (folder : List ℕ) (told : Option Files) (named : Named) : Type 0 where
  pub fit : IfSome told (λ (shelved : Files). IsFit images files folder shelved named)

-- why one listed file isn't fit
abbrev pub IsUnfit : List Cuts → List FileUse → List ℕ → Option Files → Named → DataFault → Type 0
IsUnfit images files folder told named (fault.TooLarge name) = IfSome told (λ shelved. IsFault images files folder shelved named (fault.TooLarge name))
IsUnfit images files folder told named (fault.Untame external row offset untame) =
    IfSome told (λ shelved. IsFault images files folder shelved named (fault.Untame external row offset untame))
IsUnfit images files folder told named (fault.PartialRecord external left) =
    IfSome told (λ shelved. IsFault images files folder shelved named (fault.PartialRecord external left))
IsUnfit images files folder told named (fault.Shelf name) = name ≡ folder ++ named.name
IsUnfit images files folder told named fault.Memory = Unit {0}

-- the file of that name on the shelf has these bytes, and this fault
abbrev pub IsFaultAt : Cuts → List ℕ → Files → Named → DataFault → Type 0
IsFaultAt cuts name shelved named f = (bytes : List ℕ) × (get shelved name ≡ Some bytes) × IsFaultOf named cuts bytes f

-- why the file of that name on the shelf isn't fit
abbrev pub IsUnfitAt : Cuts → List ℕ → Option Files → Named → DataFault → Type 0
IsUnfitAt cuts name told named (fault.TooLarge text) = IfSome told (λ shelved. IsFaultAt cuts name shelved named (fault.TooLarge text))
IsUnfitAt cuts name told named (fault.Untame external row offset untame) =
    IfSome told (λ shelved. IsFaultAt cuts name shelved named (fault.Untame external row offset untame))
IsUnfitAt cuts name told named (fault.PartialRecord external left) =
    IfSome told (λ shelved. IsFaultAt cuts name shelved named (fault.PartialRecord external left))
IsUnfitAt cuts name told named (fault.Shelf text) = text ≡ name
IsUnfitAt cuts name told named fault.Memory = Unit {0}
