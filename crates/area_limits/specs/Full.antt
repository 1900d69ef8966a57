-- Areas that pass their bound, and the first with which all areas pass theirs.
use Rattle.std.specs.Prelude.{ℕ, ◌+◌, ◌&&◌, nat_le, nat_lt, List, [], ◌∷◌, ◌++◌, if◌then◌else◌}
use Rattle.plan_limits.specs.declared.limit.Limit.{Limit}
use Rattle.plan_limits.specs.declared.limit.LimitKind.TheVariants as kinds
use Rattle.plan_limits.specs.Limits.{number_limit}
use Rattle.area_limits.specs.Extents.{Extent}

-- an area has at most 65,535 bytes
abbrev pub own_limits : Extent → List Limit
own_limits extent = if nat_lt 65535 extent.length then number_limit kinds.AreaFull extent.at extent.length ∷ [] else []

-- all areas have at most 4,000,000 together; those before this one have so many
abbrev pub sum_limits : ℕ → Extent → List Limit
sum_limits before extent =
    if nat_le before 4000000 && nat_lt 4000000 (before + extent.length) then number_limit kinds.AreaFull extent.at (before + extent.length) ∷ []
    else []

abbrev pub extent_limits : ℕ → Extent → List Limit
extent_limits before extent = own_limits extent ++ sum_limits before extent

abbrev pub lengths : List Extent → ℕ
lengths [] = 0
lengths (extent ∷ extents) = extent.length + lengths extents

abbrev pub full_limits : ℕ → List Extent → List Limit
full_limits before [] = []
full_limits before (extent ∷ extents) = extent_limits before extent ++ full_limits (before + extent.length) extents
