-- The order of limits, and the first of many.
use Rattle.std.specs.Prelude.{◌≡◌, ℕ, suc, false, ◌==◌, List, [], ◌∷◌, ◌++◌, map, if◌then◌else◌}
use Rattle.std.specs.List.{AllByRecursion}
use Rattle.std.specs.declared.cmp.Ordering.{Ordering}
use Rattle.std.specs.declared.cmp.Ordering.TheVariants.{Less}
use Rattle.std.specs.Ordering.{nat_cmp, is_gt}
use Rattle.std.specs.Cmp.Lexicographic.{slice_cmp}
use Rattle.plan_limits.specs.declared.limit.Limit.{Limit}
use Rattle.plan_limits.specs.declared.limit.LimitKind.{LimitKind}
use Rattle.plan_limits.specs.declared.limit.LimitKind.TheVariants as kinds
use Rattle.plan_limits.specs.declared.limit.Kept.{Kept}
use Rattle.plan_limits.specs.declared.limit.Kept.TheVariants as kept

-- the number of a kind in the order in which limits are looked for
abbrev pub kind_number : LimitKind → ℕ
kind_number kinds.SplitYear = 0
kind_number kinds.ShapeMix = 1
kind_number kinds.Undecided = 2
kind_number kinds.TooManyDigits = 3
kind_number kinds.PictureFull = 4
kind_number kinds.BadYearLiteral = 5
kind_number kinds.LiteralFull = 6
kind_number kinds.PackedOrder = 7
kind_number kinds.AreaFull = 8
kind_number kinds.NameTaken = 9
kind_number kinds.WindowShape = 10
kind_number kinds.LiteralOutsideWindow = 11
kind_number kinds.RangeAcrossPivot = 12
kind_number kinds.SizeErrorInWindow = 13
kind_number kinds.MixedCompare = 14
kind_number kinds.PivotClash = 15
kind_number kinds.CopyClash = 16
kind_number kinds.LowLiteral = 17

-- a place by area and offset, a number, a word by its bytes. A 0 ends the first of two words, before any of its bytes
abbrev pub kept_rank : Kept → List ℕ
kept_rank (kept.Place place) = 0 ∷ place.area.0 ∷ place.offset ∷ []
kept_rank (kept.Number number) = 1 ∷ number ∷ []
kept_rank (kept.Word word) = 2 ∷ word
kept_rank (kept.Words first second) = 3 ∷ (map suc first ++ 0 ∷ second)

-- undecided sums at one place go as they stand in the list, whatever their operands
abbrev pub shown_rank : LimitKind → Kept → List ℕ
shown_rank kind shown = if kind_number kind == kind_number kinds.Undecided then [] else kept_rank shown

-- by kind, then by file, line and column, then by what is kept
abbrev pub limit_rank : Limit → List ℕ
limit_rank limit = kind_number limit.kind ∷ limit.at.file.0 ∷ limit.at.line ∷ limit.at.column ∷ shown_rank limit.kind limit.kept

abbrev pub limit_cmp : Limit → Limit → Ordering
limit_cmp a b = slice_cmp nat_cmp (limit_rank a) (limit_rank b)

-- a limit of the list that comes before each one that stands earlier in it, and after none that stands later
pub record IsFirst (limits : List Limit) (limit : Limit) : Type 0 where
  pub earlier : List Limit
  pub later : List Limit
  pub among : limits ≡ earlier ++ limit ∷ later
  pub before_earlier : AllByRecursion (λ other. limit_cmp limit other ≡ Less) earlier
  pub after_none : AllByRecursion (λ other. is_gt (limit_cmp limit other) ≡ false) later
