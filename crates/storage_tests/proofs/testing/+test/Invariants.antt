use Rattle.std.proofs.Common.{◌≡◌, length}
use Rattle.cobol_syntax.specs.declared.cond.Condition.{size-Condition}
use Rattle.cobol_syntax.specs.declared.program.Program.{Program}
use Rattle.layout_reading.specs.Reading.{read_layout}
use Rattle.program_meaning.specs.Answer.{Gives}
use Rattle.program_meaning.specs.Compare.{test}
use Rattle.place_table.specs.Tables.{layout_of}
use Rattle.place_table.specs.Views.{HasGrown}
use Rattle.storage_places.specs.Held.{held}
use Rattle.tree_reading.specs.Reading.{read_condition}
use Rattle.storage_tests.specs.Joints.{AreLess, after}
use Rattle.storage_tests.proofs.testing.+test.Given as goal

abbrev pub invariant-test-loop-joint : goal.invariant-test-loop-joint
invariant-test-loop-joint l = record {
  grown : HasGrown l.fn.places l.places;
  less : AreLess (size-Condition l.fn.condition) l.joints.items;
  means : (program : Program) →
      test (read_layout program (layout_of l.fn.places)) (held l.storage) (read_condition l.fn.condition)
      ≡ after (read_layout program (layout_of l.fn.places)) (held l.storage) l.joints.items (Gives l.holds);
}

abbrev pub decreases-test-loop-joint : goal.decreases-test-loop-joint
decreases-test-loop-joint l = length l.joints.items
