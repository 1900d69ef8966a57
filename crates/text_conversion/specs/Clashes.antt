-- A clash of edited texts as a limit.
use Rattle.std.specs.Prelude.{◌≡◌, ℕ, List}
use Rattle.y2k_base.specs.declared.word.Origin.{Origin}
use Rattle.plan_limits.specs.declared.limit.Limit.{Limit}
use Rattle.plan_limits.specs.declared.limit.Kept.TheVariants as kept
use Rattle.plan_limits.specs.declared.limit.LimitKind.TheVariants as kinds
use Rattle.convert_plan.specs.declared.making.PlanFault.{PlanFault}
use Rattle.convert_plan.specs.declared.making.PlanFault.TheVariants as plan
use Rattle.source_edit.specs.declared.fault.EditFault.{EditFault}
use Rattle.source_edit.specs.declared.fault.EditFault.TheVariants as edit

-- two words that differ, at that place
abbrev pub clash_limit : Origin → List ℕ → List ℕ → Limit
clash_limit at first second = record { kind = kinds.CopyClash; at = at; kept = kept.Words first second }

abbrev pub IsClashOf : Origin → List ℕ → List ℕ → PlanFault → Type 0
IsClashOf at first second (plan.Limit limit) = limit ≡ clash_limit at first second
IsClashOf at first second plan.Memory = Unit {0}

-- a clash is the limit of that place and these words
abbrev pub IsLimitOf : EditFault → PlanFault → Type 0
IsLimitOf (edit.CopyClash at first second) f = IsClashOf at first second f
IsLimitOf edit.Memory f = f ≡ plan.Memory
