-- Why a unit has no reading.
use Rattle.std.specs.Prelude.{ℕ, ◌-◌, ◌==◌, nat_lt, if◌then◌else◌, length, slice_get, Option, Some, None}
use Rattle.y2k_base.specs.declared.word.Word.{Word}
use Rattle.y2k_base.specs.declared.word.Origin.{Origin}
use Rattle.cond_reader.specs.declared.fault.UnitFault.{UnitFault}
use Rattle.cond_reader.specs.declared.fault.UnitFault.TheVariants as unit
use Rattle.cond_reader.specs.UnitFaults.{unit_fault}
use Rattle.program_reader.specs.declared.fault.Refused.{Refused}
use Rattle.program_reader.specs.declared.fault.RefusedKind.TheVariants as r
use Rattle.program_reader.specs.Views.{View}

abbrev pub refused_of : Origin → UnitFault → Refused
refused_of last (unit.UnitShape at) = record { kind = r.UnitShape; at = at }
refused_of last (unit.NestDeep at) = record { kind = r.NestDeep; at = at }
refused_of last unit.Memory = record { kind = r.UnitShape; at = last }

abbrev pub place_or : Origin → Option Word → Origin
place_or at None = at
place_or at (Some word) = word.origin

module _ (v : View) where
  -- of the last word, or line 1, column 1
  unfoldable pub last_place : Origin
  last_place =
      let start : Origin = record { file = v.file; line = 1; column = 1 } in
      let count = length v.text.words in
      if count == 0 then start else place_or start (slice_get v.text.words (count - 1))

  -- Why no unit that may stand here is read: `cond_reader`'s fault of the unit. Past the last word a unit is missing.
  unfoldable pub fault : ℕ → Refused
  fault i =
      if nat_lt i (length v.text.words) then refused_of last_place (unit_fault v.text i)
      else record { kind = r.UnitShape; at = last_place }
