use Rattle.std.proofs.Common.{◌≡◌, length, map}
use Rattle.cobol_syntax.specs.declared.program.Program.{Program}
use Rattle.layout_reading.specs.Reading.{read_layout}
use Rattle.program_meaning.specs.Compare.{has_value}
use Rattle.place_table.specs.Tables.{layout_of}
use Rattle.place_table.specs.Views.{HasGrown}
use Rattle.storage_places.specs.Held.{held}
use Rattle.tree_reading.specs.Reading.{read_values}
use Rattle.storage_tests.specs.Seen.{seen}
use Rattle.storage_tests.proofs.named.has_value.Given as goal

abbrev pub invariant-loop-rest : goal.invariant-loop-rest
invariant-loop-rest l = record {
  grown : HasGrown l.fn.places l.places;
  values : (program : Program) →
      has_value (read_layout program (layout_of l.fn.places)) (held l.storage) (seen l.storage l.fn.view) (map read_values l.fn.ranges)
      ≡ has_value (read_layout program (layout_of l.fn.places)) (held l.storage) (seen l.storage l.fn.view) (map read_values l.rest);
}

abbrev pub decreases-loop-rest : goal.decreases-loop-rest
decreases-loop-rest l = length l.rest
