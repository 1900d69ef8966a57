-- What the character-strings of PICTURE clauses read as.
use Rattle.std.specs.Prelude.{◌≡◌, ℕ, List, [], ◌∷◌}
use Rattle.y2k_base.specs.declared.word.Word.{Word}
use Rattle.y2k_base.specs.declared.word.WordKind.{WordKind}
use Rattle.y2k_base.specs.declared.word.WordKind.TheVariants as kind
use Rattle.picture.specs.Faults.{IsReading, HasReadFault}
use Rattle.picture.specs.declared.fault.PicFault.TheVariants as pic
use Rattle.program_reader.specs.declared.fault.RefusedKind.{RefusedKind}
use Rattle.program_reader.specs.declared.fault.RefusedKind.TheVariants as r
use Rattle.program_reader.specs.declared.reading.Reading.{Reading}
use Rattle.program_reader.specs.declared.reading.Reading.TheVariants as reading

-- the string of a PICTURE clause has this fault, and no reading
abbrev pub HasPictureFault : List ℕ → RefusedKind → Type 0
HasPictureFault text r.PictureFull = HasReadFault text pic.PictureFull
HasPictureFault text r.PictureShape = HasReadFault text pic.PictureShape
HasPictureFault text r.TooManyDigits = HasReadFault text pic.TooManyDigits
HasPictureFault text _ = ⊥

abbrev pub IsPictureOf : Word → Reading → Type 0
IsPictureOf word reading.Plain = ⊥
IsPictureOf word (reading.Picture picture) = IsReading word.text picture
IsPictureOf word (reading.Refused refused) = HasPictureFault word.text refused.kind × (refused.at ≡ word.origin)

abbrev pub IsPlain : Reading → Type 0
IsPlain reading.Plain = Unit {0}
IsPlain (reading.Picture picture) = ⊥
IsPlain (reading.Refused refused) = ⊥

abbrev pub IsReadingBy : Word → WordKind → Reading → Type 0
IsReadingBy word kind.Picture x = IsPictureOf word x
IsReadingBy word kind.Name x = IsPlain x
IsReadingBy word kind.Number x = IsPlain x
IsReadingBy word kind.Literal x = IsPlain x
IsReadingBy word kind.Mark x = IsPlain x

-- what a word reads as
abbrev pub IsReadingOf : Word → Reading → Type 0
IsReadingOf word x = IsReadingBy word word.kind x

-- what words read as, one by one
abbrev pub AreReadings : List Word → List Reading → Type 0
AreReadings [] [] = Unit {0}
AreReadings [] (x ∷ xs) = ⊥
AreReadings (word ∷ words) [] = ⊥
AreReadings (word ∷ words) (x ∷ xs) = IsReadingOf word x × AreReadings words xs
