-- What the conversion of data files leaves on the shelf.
use Rattle.std.specs.Prelude.{◌≡◌, ◌≢◌, ◌⊎◌, ℕ, ◌+◌, Bool, true, false, List, [], ◌∷◌, ◌++◌, Option, Some, None, IfSome, Contains}
use Rattle.std.specs.Option.{option_map}
use Rattle.std.specs.FinMap.{get}
use Rattle.shelf.specs.Contents.{Files, bytes_of}
use Rattle.data_layout.specs.declared.portfolio.FileUse.{FileUse}
use Rattle.file_convert.specs.Faults.{HasConvertFault, HasLeft}
use Rattle.file_convert.specs.Files.{IsTameFile, converted, file_image, with_bytes}
use Rattle.file_convert.specs.declared.cut.Cuts.{Cuts}
use Rattle.file_convert.specs.declared.fault.ConvertFault.{ConvertFault}
use Rattle.portfolio.specs.declared.manifest.Named.{Named}
use Rattle.written_names.specs.Clashes.{under}
use Rattle.data_conversion.specs.Checked.{bytes_in}
use Rattle.data_conversion.specs.Faults.{IsFileFault}
use Rattle.data_conversion.specs.Numbers.{cuts_for}
use Rattle.data_conversion.specs.declared.fault.DataFault.{DataFault}
use Rattle.data_conversion.specs.declared.fault.DataFault.TheVariants as fault

-- no listed file is written under the name of one that is read
abbrev pub AreApart : List ℕ → List ℕ → List Named → Type 0
AreApart folder out listed = (r w : Named) → Contains listed r → Contains listed w → folder ++ r.name ≢ under out w.name

-- the image of a file by its years
abbrev pub image_of : Option Cuts → Option (List ℕ) → Option (List ℕ)
image_of None bytes = None
image_of (Some cuts) bytes = option_map (file_image cuts) bytes

-- the image of a listed file that the shelf held at first
abbrev pub image_in : List Cuts → List FileUse → List ℕ → Files → Named → Option (List ℕ)
image_in images files folder shelved named = image_of (cuts_for images files named.key) (bytes_in shelved folder named)

-- with the image of each listed file that is there under its new name
abbrev pub with_images : List Cuts → List FileUse → List ℕ → List ℕ → Files → List Named → Files → Files
with_images images files folder out shelved [] now = now
with_images images files folder out shelved (named ∷ ns) now =
    with_images images files folder out shelved ns (with_bytes (under out named.name) (image_in images files folder shelved named) now)

-- exactly the images of the listed files that are there are written
abbrev pub with_data : List Cuts → List FileUse → List ℕ → List ℕ → List Named → Files → Files
with_data images files folder out listed shelved = with_images images files folder out shelved listed shelved

abbrev pub one_if : Option (List ℕ) → ℕ
one_if None = 0
one_if (Some bytes) = 1

-- how many of the listed files are there
abbrev pub count_in : List ℕ → Files → List Named → ℕ
count_in folder shelved [] = 0
count_in folder shelved (named ∷ ns) = one_if (bytes_in shelved folder named) + count_in folder shelved ns

abbrev pub one_where : Bool → ℕ
one_where false = 0
one_where true = 1

-- where no written name is read, all that is written is told by what the shelf held at first
abbrev pub IsWithData : List Cuts → List FileUse → (folder out : List ℕ) → List Named → (before : Files) → (after : Option Files) → (count : ℕ) → Type 0
IsWithData images files folder out listed before after count =
    (after ≡ Some (with_data images files folder out listed before)) × (count ≡ count_in folder before listed)

-- the image of one listed file is written, as the shelf then is
abbrev pub stepped : List Cuts → List FileUse → (folder out : List ℕ) → Named → Files → Files
stepped images files folder out named shelved = with_bytes (under out named.name) (image_in images files folder shelved named) shelved

-- one after the other, where each is read from the shelf as it then is
abbrev pub with_steps : List Cuts → List FileUse → (folder out : List ℕ) → List Named → Files → Files
with_steps images files folder out [] shelved = shelved
with_steps images files folder out (named ∷ ns) shelved = with_steps images files folder out ns (stepped images files folder out named shelved)

-- how many of them are there when they are read
abbrev pub count_steps : List Cuts → List FileUse → (folder out : List ℕ) → List Named → Files → ℕ
count_steps images files folder out [] shelved = 0
count_steps images files folder out (named ∷ ns) shelved =
    one_if (bytes_in shelved folder named) + count_steps images files folder out ns (stepped images files folder out named shelved)

-- the file of that name is whole records that are all tame; one that is not there has none
abbrev pub IsTameAt : Cuts → List ℕ → Files → Type 0
IsTameAt cuts name shelved = (count : ℕ) × IsTameFile cuts (bytes_of shelved name) count

abbrev pub IsTameIn : List Cuts → List FileUse → List ℕ → Named → Files → Type 0
IsTameIn images files folder named shelved =
    (cuts : Cuts) × (cuts_for images files named.key ≡ Some cuts) × IsTameAt cuts (folder ++ named.name) shelved

-- each of them is so when it is read
abbrev pub AreTameIn : List Cuts → List FileUse → (folder out : List ℕ) → List Named → Files → Type 0
AreTameIn images files folder out [] shelved = Unit {0}
AreTameIn images files folder out (named ∷ ns) shelved =
    IsTameIn images files folder named shelved × AreTameIn images files folder out ns (stepped images files folder out named shelved)

-- all listed files are tame, their images are written, and so many were there; where the shelf tells nothing it tells nothing after
abbrev pub IsConverted : List Cuts → List FileUse → (folder out : List ℕ) → List Named → (before after : Option Files) → (count : ℕ) → Type 0
IsConverted images files folder out listed None after count = after ≡ None
IsConverted images files folder out listed (Some shelved) after count =
    AreTameIn images files folder out listed shelved
    × (after ≡ Some (with_steps images files folder out listed shelved))
    × (count ≡ count_steps images files folder out listed shelved)

-- the file of that name is tame, its image is written under the other name, and this is whether it is there
abbrev pub IsTakenBy : Cuts → (name to : List ℕ) → (before after : Option Files) → Bool → Type 0
IsTakenBy cuts name to before after there =
    IfSome before (λ shelved. IsTameAt cuts name shelved)
    × (after ≡ option_map (converted cuts name to) before)
    × IfSome before (λ shelved. one_where there ≡ one_if (get shelved name))

-- the same of a listed file
abbrev pub IsTaken : List Cuts → List FileUse → (folder out : List ℕ) → Named → (before after : Option Files) → Bool → Type 0
IsTaken images files folder out named before after there =
    IfSome before (λ shelved. IsTameIn images files folder named shelved)
    × (after ≡ option_map (stepped images files folder out named) before)
    × IfSome before (λ shelved. one_where there ≡ one_if (bytes_in shelved folder named))

-- why the file of that name has no image, and what is left under the other one; want of memory may stand in place of each cause
abbrev pub HasStopped : Cuts → (external name to : List ℕ) → (before after : Option Files) → DataFault → Type 0
HasStopped cuts external name to before after f =
    (call : ConvertFault)
    × IfSome before (λ shelved. HasConvertFault cuts (bytes_of shelved name) call)
    × HasLeft cuts name to before after call
    × IsFileFault external name to call f

-- the same, or want of memory before the file was opened
abbrev pub HasStoppedBy : Cuts → (external name to : List ℕ) → (before after : Option Files) → DataFault → Type 0
HasStoppedBy cuts external name to before after f =
    ((f ≡ fault.Memory) × (after ≡ before)) ⊎ HasStopped cuts external name to before after f

abbrev pub HasStoppedAt : List Cuts → List FileUse → (folder out : List ℕ) → Named → (before after : Option Files) → DataFault → Type 0
HasStoppedAt images files folder out named before after f =
    ((f ≡ fault.Memory) × (after ≡ before))
    ⊎ ((cuts : Cuts) × (cuts_for images files named.key ≡ Some cuts) × HasStopped cuts named.key (folder ++ named.name) (under out named.name) before after f)

-- the files before one of them are tame and their images are written, and that one is at fault; or no memory was left
abbrev pub HasStoppedIn : List Cuts → List FileUse → (folder out : List ℕ) → List Named → (before after : Option Files) → DataFault → Type 0
HasStoppedIn images files folder out [] before after f = (f ≡ fault.Memory) × (after ≡ before)
HasStoppedIn images files folder out (named ∷ ns) before after f =
    HasStoppedAt images files folder out named before after f
    ⊎ (IfSome before (λ shelved. IsTameIn images files folder named shelved)
    × HasStoppedIn images files folder out ns (option_map (stepped images files folder out named) before) after f)
