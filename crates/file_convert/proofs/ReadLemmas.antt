-- Reading up to an end.
use Rattle.std.proofs.Common.{◌≡◌, ℕ, ◌-◌, ◌≤◌, List, ◌++◌, length, take, drop, min, Option, Some, None, ap, ◌∙◌, arith}
use Rattle.std.specs.Prelude.{IfSome}
use Rattle.std.proofs.lemmas.List.{length-take-le, take-append-le}
use Rattle.shelf.specs.Contents.{Files, bytes_of, IsRead}
use Rattle.file_convert.specs.Files.{IsReadUpTo}

-- what was read into a part of the buffer is at the front of the whole
pub read_into_front : (told : Option Files) (name : List ℕ) (at end room count : ℕ) (before front : List ℕ) → room ≡ min (end - at) (length before) → IfSome told (λ files. IsRead (bytes_of files name) at (take room before) front count) → count ≤ length front → IfSome told (λ files. IsReadUpTo end (bytes_of files name) at before (front ++ drop room before) count)
read_into_front None name at end room count before front e h l = tt
read_into_front (Some files) name at end room count before front e h l =
    let rest = drop at (bytes_of files name) in
    let long : length (take room before) ≡ room = length-take-le room before (omega arith) in
    let same : length (take room before) ≡ min (end - at) (length before) = long ∙ e in (
      h.0 ∙ ap (λ n. length (take n rest)) same,
      take-append-le count front (drop room before) l ∙ h.1 ∙ ap (λ n. take n rest) same,
    )
