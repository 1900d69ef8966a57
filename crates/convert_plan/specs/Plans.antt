-- The plan of a portfolio, or why there is none.
use Rattle.std.specs.Prelude.{◌≡◌, ℕ, List, [], ◌++◌, map, Option}
use Rattle.y2k_base.specs.declared.place.AreaId.{AreaId}
use Rattle.data_layout.specs.declared.portfolio.Portfolio.{Portfolio}
use Rattle.window_items.specs.declared.window.Windows.{Windows}
use Rattle.year_labels.specs.declared.label.Fact.{Fact}
use Rattle.year_pairs.specs.declared.year.Year.{Year}
use Rattle.year_pairs.specs.Years.{AreYearsOf}
use Rattle.year_pairs.specs.Lone.{AreLoneBytesOf}
use Rattle.mode_links.specs.Whole.{links}
use Rattle.window_modes.specs.declared.modes.YearMode.{YearMode}
use Rattle.window_modes.specs.Modes.{AreModesOf}
use Rattle.date_uses.specs.declared.uses.DateUse.{DateUse}
use Rattle.date_uses.specs.Uses.{uses}
use Rattle.plan_limits.specs.declared.limit.Limit.{Limit}
use Rattle.plan_limits.specs.First.{IsFirst}
use Rattle.plan_images.specs.Lengths.{lengths_in}
use Rattle.plan_images.specs.Tables.{AreImagesOf}
use Rattle.entry_limits.specs.Whole.{entry_limits}
use Rattle.statement_limits.specs.Limits.{statement_limits}
use Rattle.literal_images.specs.Limits.{literal_limits}
use Rattle.comparison_limits.specs.Limits.{comparison_limits}
use Rattle.area_limits.specs.Whole.{area_limits}
use Rattle.convert_plan.specs.Groups.{groups_of}
use Rattle.convert_plan.specs.Numbers.{needs_from, numbers_from, record_area}
use Rattle.convert_plan.specs.declared.plan.Plan.{Plan}
use Rattle.convert_plan.specs.declared.making.PlanFault.{PlanFault}
use Rattle.convert_plan.specs.declared.making.PlanFault.TheVariants as fault

-- the years of the labelling, in the modes that the links of the portfolio and its window groups give
pub record ArePlannedModes (facts : List Fact) (portfolio : Portfolio) (windows : Windows) (modes : List YearMode) : Type 0 where
  pub years : List Year
  pub found : AreYearsOf facts years
  pub modes_of : AreModesOf years (links facts portfolio) (groups_of portfolio.layouts windows.groups) modes

-- the limits of entries, statements, literals, comparisons and areas
abbrev pub limits_by : List Fact → Portfolio → List Fact → List YearMode → List DateUse → List Limit
limits_by facts portfolio lone modes used =
    entry_limits portfolio.programs portfolio.layouts lone modes
    ++ (statement_limits portfolio.programs portfolio.layouts facts modes used
    ++ (literal_limits portfolio.programs modes used
    ++ (comparison_limits portfolio.programs modes used
    ++ area_limits portfolio.programs portfolio.layouts modes used)))

-- all that stands against a conversion with these modes
pub record AreLimitsOf (facts : List Fact) (portfolio : Portfolio) (modes : List YearMode) (limits : List Limit) : Type 0 where
  pub lone : List Fact
  pub lone_are : AreLoneBytesOf facts lone
  pub limits_are : limits ≡ limits_by facts portfolio lone modes (uses facts portfolio)

-- nothing stands against the plan: its modes are those of the labelling, its images those of the areas with these modes, and
-- the areas that its programs get, the numbers of areas after conversion and the record areas of files are the defined ones
pub record IsPlanOf (facts : List Fact) (portfolio : Portfolio) (windows : Windows) (plan : Plan) : Type 0 where
  pub labels : plan.labelling.now ≡ facts
  pub day : plan.day ≡ windows.day
  pub modes : ArePlannedModes facts portfolio windows plan.index
  pub limits : AreLimitsOf facts portfolio plan.index []
  pub images : AreImagesOf (lengths_in portfolio.layouts) plan.index plan.images
  pub needed : plan.needed ≡ needs_from plan.index (uses facts portfolio) 0 portfolio.layouts
  pub numbers : plan.numbers ≡ numbers_from 0 portfolio.layouts plan.needed
  pub files : plan.files ≡ map record_area portfolio.files

-- the limit is the first of all that stand
pub record IsFirstLimit (facts : List Fact) (portfolio : Portfolio) (windows : Windows) (limit : Limit) : Type 0 where
  pub modes : List YearMode
  pub planned : ArePlannedModes facts portfolio windows modes
  pub limits : List Limit
  pub limits_are : AreLimitsOf facts portfolio modes limits
  pub first : IsFirst limits limit

-- want of memory may come at any time
abbrev pub HasPlanFault : List Fact → Portfolio → Windows → PlanFault → Type 0
HasPlanFault facts portfolio windows (fault.Limit limit) = IsFirstLimit facts portfolio windows limit
HasPlanFault facts portfolio windows fault.Memory = Unit {0}
