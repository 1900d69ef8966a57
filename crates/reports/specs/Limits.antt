-- The line of a limit.
use Rattle.std.specs.Prelude.{ℕ, List, ◌++◌, codes, decimal}
use Rattle.y2k_base.specs.declared.place.BytePlace.{BytePlace}
use Rattle.y2k_base.specs.declared.text.Texts.{Texts}
use Rattle.data_layout.specs.declared.portfolio.Portfolio.{Portfolio}
use Rattle.plan_limits.specs.declared.limit.Limit.{Limit}
use Rattle.plan_limits.specs.declared.limit.LimitKind.{LimitKind}
use Rattle.plan_limits.specs.declared.limit.LimitKind.TheVariants as kind
use Rattle.plan_limits.specs.declared.limit.Kept.{Kept}
use Rattle.plan_limits.specs.declared.limit.Kept.TheVariants as kept
use Rattle.reports.specs.declared.names.AreaName.{AreaName}
use Rattle.reports.specs.Names.{name_at, names_of}
use Rattle.reports.specs.Places.{place_text}

abbrev pub kind_text : LimitKind → List ℕ
kind_text kind.SplitYear = codes "SplitYear"
kind_text kind.ShapeMix = codes "ShapeMix"
kind_text kind.Undecided = codes "Undecided"
kind_text kind.TooManyDigits = codes "TooManyDigits"
kind_text kind.PictureFull = codes "PictureFull"
kind_text kind.BadYearLiteral = codes "BadYearLiteral"
kind_text kind.LiteralFull = codes "LiteralFull"
kind_text kind.PackedOrder = codes "PackedOrder"
kind_text kind.AreaFull = codes "AreaFull"
kind_text kind.NameTaken = codes "NameTaken"
kind_text kind.WindowShape = codes "WindowShape"
kind_text kind.LiteralOutsideWindow = codes "LiteralOutsideWindow"
kind_text kind.RangeAcrossPivot = codes "RangeAcrossPivot"
kind_text kind.SizeErrorInWindow = codes "SizeErrorInWindow"
kind_text kind.MixedCompare = codes "MixedCompare"
kind_text kind.PivotClash = codes "PivotClash"
kind_text kind.CopyClash = codes "CopyClash"
kind_text kind.LowLiteral = codes "LowLiteral"

-- a byte: its program, its area, and its offset from 0
abbrev pub byte_place_text : List AreaName → BytePlace → List ℕ
byte_place_text names place =
    (name_at names place.area).program ++ (codes " " ++ ((name_at names place.area).area ++ (codes " " ++ decimal place.offset)))

abbrev pub kept_text : List AreaName → Kept → List ℕ
kept_text names (kept.Place place) = byte_place_text names place
kept_text names (kept.Number number) = decimal number
kept_text names (kept.Word word) = word
kept_text names (kept.Words first second) = first ++ (codes " " ++ second)

abbrev pub kind_part : LimitKind → List ℕ
kind_part kind = codes "limit " ++ (kind_text kind ++ codes " ")

abbrev pub shown : Portfolio → Kept → List ℕ
shown portfolio kept = codes " " ++ (kept_text (names_of portfolio) kept ++ codes "\n")

-- limit KIND FILE:LINE:COLUMN KEPT
abbrev pub limit_line : Texts → Portfolio → Limit → List ℕ
limit_line texts portfolio limit = kind_part limit.kind ++ (place_text texts.list limit.at ++ shown portfolio limit.kept)
