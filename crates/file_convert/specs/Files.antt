-- Files of records with cuts, and their images.
use Rattle.std.specs.Prelude.{◌≡◌, ℕ, ◌+◌, ◌*◌, ◌/◌, ◌≤◌, Bool, true, false, List, length, Option, Some, None, IfSome, take, drop, min, ◌-◌}
use Rattle.std.specs.Option.{option_map}
use Rattle.std.specs.FinMap.{get, insert}
use Rattle.shelf.specs.Contents.{Files, bytes_of}
use Rattle.byte_lists.specs.Records.{records}
use Rattle.year_image.specs.Files.{images, AreTame}
use Rattle.year_image.specs.Image.{image, IsTame}
use Rattle.byte_lists.specs.Part.{part}
use Rattle.file_convert.specs.Cuts.{pieces}
use Rattle.file_convert.specs.declared.cut.Cuts.{Cuts}

-- the record of that index, from 0 on
abbrev pub record_at : Cuts → ℕ → List ℕ → List ℕ
record_at cuts index bytes = part bytes (index * cuts.length) cuts.length

-- the first records are all tame
abbrev pub IsTameUpTo : Cuts → ℕ → List ℕ → Type 0
IsTameUpTo cuts count bytes = AreTame (pieces cuts) (records cuts.length count bytes)

-- the images of the first records
abbrev pub front_image : Cuts → ℕ → List ℕ → List ℕ
front_image cuts count bytes = images (pieces cuts) (records cuts.length count bytes)

-- the images of all whole records of a file
abbrev pub file_image : Cuts → List ℕ → List ℕ
file_image cuts bytes = front_image cuts (length bytes / cuts.length) bytes

-- the file is so many records, and each of them is tame
abbrev pub IsTameFile : Cuts → List ℕ → ℕ → Type 0
IsTameFile cuts bytes count = (length bytes ≡ count * cuts.length) × IsTameUpTo cuts count bytes

-- the files with the images of the first records of one under another name
abbrev pub with_front : Cuts → (name to : List ℕ) → ℕ → Files → Files
with_front cuts name to count files = insert files to (front_image cuts count (bytes_of files name))

-- the files with the image of one of them under another name
abbrev pub with_image : Cuts → (name to : List ℕ) → Files → Files
with_image cuts name to files = insert files to (file_image cuts (bytes_of files name))

abbrev pub with_bytes : List ℕ → Option (List ℕ) → Files → Files
with_bytes to None files = files
with_bytes to (Some bytes) files = insert files to bytes

-- the same, but where the file is not there the files are as they were
abbrev pub converted : Cuts → (name to : List ℕ) → Files → Files
converted cuts name to files = with_bytes to (option_map (file_image cuts) (get files name)) files

-- the file has so many bytes, where the shelf tells it
abbrev pub HasSize : ℕ → List ℕ → Option Files → Type 0
HasSize size name told = IfSome told (λ files. length (bytes_of files name) ≡ size)

-- the record of that index is whole and tame and this is its image, or no bytes are left
abbrev pub IsNext : Cuts → ℕ → List ℕ → List ℕ → Bool → Type 0
IsNext cuts index bytes image_bytes true =
    ((index + 1) * cuts.length ≤ length bytes) × IsTame 48 (pieces cuts) (record_at cuts index bytes) × (image_bytes ≡ image 48 (pieces cuts) (record_at cuts index bytes))
IsNext cuts index bytes image_bytes false = length bytes ≤ index * cuts.length

-- the bytes from there on up to the end, as many as there is room for, are at the front of the buffer
abbrev pub IsReadUpTo : ℕ → List ℕ → ℕ → List ℕ → List ℕ → ℕ → Type 0
IsReadUpTo end bytes at before after count =
    let part_read : List ℕ = take (min (end - at) (length before)) (drop at bytes) in (count ≡ length part_read) × (take count after ≡ part_read)
