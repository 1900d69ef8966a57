-- A clash as a fault.
use Rattle.std.specs.Prelude.{◌≡◌}
use Rattle.plan_limits.specs.declared.limit.Limit.{Limit}
use Rattle.plan_limits.specs.declared.limit.Kept.TheVariants as kept
use Rattle.source_edit.specs.declared.fault.EditFault.{EditFault}
use Rattle.source_edit.specs.declared.fault.EditFault.TheVariants as fault

abbrev pub IsFaultOf : Limit → EditFault → Type 0
IsFaultOf limit (fault.CopyClash at first second) = (limit.at ≡ at) × (limit.kept ≡ kept.Words first second)
IsFaultOf limit fault.Memory = Unit {0}
