-- What the statements of a running program work on, as the world of its meaning.
use Rattle.std.specs.Prelude.{◌≡◌, List}
use Rattle.data_layout.specs.declared.item.Layout.{Layout}
use Rattle.program_meaning.specs.State.{World, Shown}
use Rattle.place_table.specs.Tables as table
use Rattle.place_table.specs.Tables.{IsStorageOf}
use Rattle.seq_files.specs.Disks.{disks}
use Rattle.storage_places.specs.Held.{held}
use Rattle.file_statements.specs.declared.unit.RunUnit.{RunUnit}

abbrev pub layout_of : RunUnit → Layout
layout_of unit = table.layout_of unit.places

-- with what was shown so far
abbrev pub world_of : RunUnit → List Shown → World
world_of unit shown = record { storage = held unit.storage; files = disks unit.store; shown = shown }

-- storage and files of a program with this layout
pub record IsUnitOf (layout : Layout) (unit : RunUnit) : Type 0 where
  pub places : layout_of unit ≡ layout
  pub storage : IsStorageOf layout unit.storage
