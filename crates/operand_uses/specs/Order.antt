-- The faults of use, and which of them comes first: by their owners in text order; of one owner first its
-- identifiers in text order, then its file, record or paragraph, then the use itself.
use Rattle.std.specs.Prelude.{ℕ, ◌+◌, ◌*◌, ◌^◌, Bool, true, false, nat_le, Option, Some, None, if◌then◌else◌}
use Rattle.operand_uses.specs.declared.fault.NameKind.{NameKind}
use Rattle.operand_uses.specs.declared.fault.Trouble.{Trouble}
use Rattle.operand_uses.specs.declared.fault.Trouble.TheVariants as trouble
use Rattle.operand_uses.specs.declared.fault.UseFault.{UseFault}

abbrev pub turn_within : Trouble → ℕ
turn_within (trouble.Place at kind) = at
turn_within (trouble.Name kind) = 2 ^ 32
turn_within trouble.Shape = 2 ^ 32 + 1
turn_within trouble.File = 2 ^ 32 + 2

-- positions have 32 bits
abbrev pub turn : UseFault → ℕ
turn fault = fault.owner * 2 ^ 33 + turn_within fault.trouble

abbrev pub sooner_of : UseFault → UseFault → UseFault
sooner_of one other = if nat_le (turn one) (turn other) then one else other

-- the first fault of both
abbrev pub sooner : Option UseFault → Option UseFault → Option UseFault
sooner None other = other
sooner (Some one) None = Some one
sooner (Some one) (Some other) = Some (sooner_of one other)

-- a use that is right, or has no meaning
abbrev pub shape_fault : ℕ → Bool → Option UseFault
shape_fault owner true = None
shape_fault owner false = Some (record { owner = owner; trouble = trouble.Shape })

-- an identifier at a position
abbrev pub fault_at : ℕ → ℕ → Option NameKind → Option UseFault
fault_at owner at None = None
fault_at owner at (Some kind) = Some (record { owner = owner; trouble = trouble.Place at kind })

-- the name of a file, a record or a paragraph
abbrev pub name_fault : ℕ → Option NameKind → Option UseFault
name_fault owner None = None
name_fault owner (Some kind) = Some (record { owner = owner; trouble = trouble.Name kind })
