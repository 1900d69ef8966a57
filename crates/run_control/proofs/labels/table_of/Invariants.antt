use Rattle.std.proofs.Common.{◌≡◌, ◌≤◌, ℕ, List, length, map, drop}
use Rattle.name_tables.specs.Table.{held}
use Rattle.tree_reading.specs.Reading.{read_paragraph}
use Rattle.program_meaning.specs.State.{after_section}
use Rattle.run_control.specs.Labels.{label_of}
use Rattle.run_control.proofs.labels.table_of.Given as goal

abbrev pub invariant-loop-at : goal.invariant-loop-at
invariant-loop-at l = record {
  found : (name : List ℕ) → held l.table name ≡ label_of name (map read_paragraph (drop l.at l.paragraphs));
  ends : l.section_end ≡ after_section (map read_paragraph (drop l.at l.paragraphs));
  within : l.at ≤ length l.paragraphs;
}

abbrev pub decreases-loop-at : goal.decreases-loop-at
decreases-loop-at l = l.at
