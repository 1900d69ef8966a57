-- What stands against the conversion of a portfolio.
use Rattle.std.specs.Prelude.{◌≡◌, ◌⊎◌, List}
use Rattle.data_layout.specs.declared.portfolio.Portfolio.{Portfolio}
use Rattle.window_items.specs.declared.window.Windows.{Windows}
use Rattle.year_labels.specs.declared.label.Fact.{Fact}
use Rattle.plan_limits.specs.declared.limit.Limit.{Limit}
use Rattle.plan_limits.specs.declared.limit.LimitKind.TheVariants as kinds
use Rattle.convert_plan.specs.Plans.{IsFirstLimit, IsPlanOf}
use Rattle.convert_plan.specs.declared.plan.Plan.{Plan}
use Rattle.convert_plan.specs.declared.making.PlanFault.{PlanFault}
use Rattle.convert_plan.specs.declared.making.PlanFault.TheVariants as fault

-- nothing stands against the plan, but programs that share words would need them unlike
pub record IsClashLimit (facts : List Fact) (portfolio : Portfolio) (windows : Windows) (limit : Limit) : Type 0 where
  pub plan : Plan
  pub planned : IsPlanOf facts portfolio windows plan
  pub kind : limit.kind ≡ kinds.CopyClash

-- the first limit of a plan, or such a clash; want of memory may come at any time
abbrev pub HasConversionFault : List Fact → Portfolio → Windows → PlanFault → Type 0
HasConversionFault facts portfolio windows (fault.Limit limit) = IsFirstLimit facts portfolio windows limit ⊎ IsClashLimit facts portfolio windows limit
HasConversionFault facts portfolio windows fault.Memory = Unit {0}
