-- The words that kinds of refusals print as.
use Rattle.std.specs.Prelude.{ℕ, List, codes}
use Rattle.portfolio.specs.declared.fault.ManifestKind.{ManifestKind}
use Rattle.portfolio.specs.declared.fault.ManifestKind.TheVariants as keys
use Rattle.program_reader.specs.declared.fault.RefusedKind.{RefusedKind}
use Rattle.program_reader.specs.declared.fault.RefusedKind.TheVariants as kinds

abbrev pub key_word : ManifestKind → List ℕ
key_word keys.MissingKey = codes "MissingKey"
key_word keys.BadValue = codes "BadValue"
key_word keys.BadName = codes "BadName"
key_word keys.UnknownKey = codes "UnknownKey"
key_word keys.NameTwice = codes "NameTwice"

abbrev pub kind_word : RefusedKind → List ℕ
kind_word kinds.BadByte = codes "BadByte"
kind_word kinds.LineLong = codes "LineLong"
kind_word kinds.OpenLiteral = codes "OpenLiteral"
kind_word kinds.BadContinuation = codes "BadContinuation"
kind_word kinds.WordLong = codes "WordLong"
kind_word kinds.CopyShape = codes "CopyShape"
kind_word kinds.CopyMissing = codes "CopyMissing"
kind_word kinds.NestedCopy = codes "NestedCopy"
kind_word kinds.UnitShape = codes "UnitShape"
kind_word kinds.NestDeep = codes "NestDeep"
kind_word kinds.PictureFull = codes "PictureFull"
kind_word kinds.PictureShape = codes "PictureShape"
kind_word kinds.TooManyDigits = codes "TooManyDigits"
kind_word kinds.LayoutShape = codes "LayoutShape"
kind_word kinds.AreaFull = codes "AreaFull"
kind_word kinds.NameTwice = codes "NameTwice"
kind_word kinds.NameUnknown = codes "NameUnknown"
kind_word kinds.UseShape = codes "UseShape"
