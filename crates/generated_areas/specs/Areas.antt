-- The names and the digits of generated areas.
use Rattle.std.specs.Prelude.{ℕ, ◌+◌, ◌++◌, List, codes, decimal}
use Rattle.generated_areas.specs.declared.area.GeneratedArea.{GeneratedArea}
use Rattle.generated_areas.specs.declared.area.GeneratedArea.TheVariants as areas

abbrev pub area_digits : GeneratedArea → ℕ
area_digits areas.Date = 6
area_digits areas.FullDate = 8
area_digits areas.Day = 5
area_digits areas.FullDay = 7
area_digits (areas.Short n) = n
area_digits (areas.Long n) = n + 2

abbrev pub area_name : GeneratedArea → List ℕ
area_name areas.Date = codes "Y2K-DATE"
area_name areas.FullDate = codes "Y2K-FULL-DATE"
area_name areas.Day = codes "Y2K-DAY"
area_name areas.FullDay = codes "Y2K-FULL-DAY"
area_name (areas.Short n) = codes "Y2K-SHORT-" ++ decimal n
area_name (areas.Long n) = codes "Y2K-LONG-" ++ decimal n
